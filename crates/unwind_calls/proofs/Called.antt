-- A call: parameters take the arguments, the body runs, the caller's locals are back, and the closing brace gives a result.
use Rattle.std.proofs.Common.{◌≡◌, ℕ, zero, suc, ◌+◌, ◌-◌, ◌<◌, ◌≤◌, List, [], ◌++◌, Option, Some, None, Bool, length, map, refl, sym, ap, ◌∙◌, subst, append_assoc, ◌⊎◌, inl, inr, arith}
use Rattle.std.specs.Prelude.{ℤ, bit_or, Contains, slice_index_or}
use Rattle.std.proofs.lemmas.Bool.{cases_lt}
use Rattle.std.proofs.lemmas.List.{length-map}
use Rattle.bits_core.specs.Word.{number}
use Rattle.word_eqs.specs.declared.term.TermId.{TermId}
use Rattle.word_eqs.specs.Meaning.{Values, Respects}
use Rattle.joint_ir.specs.declared.ctype.IntType.{IntType}
use Rattle.joint_ir.specs.declared.expr.Slot.TheVariants.{Local}
use Rattle.joint_ir.specs.declared.pair.Pair.{Pair}
use Rattle.joint_ir.specs.declared.way.Way.{Way}
use Rattle.joint_ir.specs.declared.way.Way.TheVariants.{Next, Breaking, Continuing, Returning}
use Rattle.joint_ir.specs.Effects.{Effect, Told, nothing, Onward, Goes, Stops, TooFew, preceded, then_do}
use Rattle.joint_ir.specs.States.{JointState, row_at}
use Rattle.joint_ir.specs.Statements.{after_body, closing}
use Rattle.joint_ir.specs.Steps.{slot_type, with_locals, returning, type_or_int}
use Rattle.joint_lists.specs.Own.{KeepsOthers, GoesWith}
use Rattle.sized_terms.specs.declared.SizedTerm.{SizedTerm}
use Rattle.sized_terms.specs.Sized.{bits}
use Rattle.unrolled.specs.declared.Unrolled.{Unrolled}
use Rattle.trails.specs.Following.{way_bit, IsAt, goes, Follows}
use Rattle.trails.specs.Trails.{Trail, Through, Halts, values_of, trail_then, trail}
use Rattle.trails.proofs.Walking.{then_nothing, trail-append}
use Rattle.trails.proofs.Ways.{IsAfter, bind_follows, stays_follows, follows_as, follows_mapped, preceded_twice, preceded_nothing, joined_nothing}
use Rattle.unwind_state.specs.declared.state.Flow.{Flow}
use Rattle.unwind_state.specs.declared.state.Guard.{Guard}
use Rattle.unwind_state.specs.declared.state.State.{State}
use Rattle.unwind_state.specs.Guards.{bit_at, bits_of}
use Rattle.unwind_state.specs.Images.{Image, words, words_at, look, numbers, IsState, IsSettled, IsBehind}
use Rattle.unwind_state.specs.Unwinding.{Unwinds}
use Rattle.unwind_simple.specs.Obtaining.{ComesTo}
use Rattle.unwind_calls.specs.Arguments.{Sets}
use Rattle.unwind_calls.specs.Calls.{Returns, Closes, IsClosed, handed, fell_of}
use Rattle.unwind_calls.specs.Rows.{rows_part, rows_back, image_back, IsBack}
use Rattle.unwind_calls.proofs.Backs.{take_at, drop_at, back_low, back_own, back_high, back_self, back_length, back_mapped}

-- ---- states

-- an image with another result
abbrev pub image_result : Image → ℕ → Image
image_result x n = record { globals = x.globals; locals = x.locals; members = x.members; registers = x.registers; inputs = x.inputs; unknown = x.unknown; wires = x.wires; edges = x.edges; result = n }

pub result_state : (p : Pair) (visible : List ℕ) (x : Image) (n : ℕ) (s : JointState) → IsState p visible x s → IsState p visible (image_result x n) s
result_state p visible x n s h = record {
  globals = h.globals;
  locals = h.locals;
  members = h.members;
  global_count = h.global_count;
  local_count = h.local_count;
  member_count = h.member_count;
  local_lengths = h.local_lengths;
  registers = h.registers;
  inputs = h.inputs;
  wires = h.wires;
  edges = h.edges;
}

-- what was returned is no part of what words stand for
pub returning_state : (p : Pair) (visible : List ℕ) (x : Image) (s : JointState) (n : ℤ) → IsState p visible x s → IsState p visible x (returning s n)
returning_state p visible x s n h = record {
  globals = h.globals;
  locals = h.locals;
  members = h.members;
  global_count = h.global_count;
  local_count = h.local_count;
  member_count = h.member_count;
  local_lengths = h.local_lengths;
  registers = h.registers;
  inputs = h.inputs;
  wires = h.wires;
  edges = h.edges;
}

-- a row that isn't a function's own is as it was
other_row : (first end : ℕ) (rows : List (List ℤ)) (s : JointState) (i : ℕ) → KeepsOthers first end rows s → (i < first) ⊎ (end ≤ i) → row_at s.store.locals i ≡ row_at rows i
other_row first end rows s i h (inl lt) = sym (take_at [] first i s.store.locals lt) ∙ ap (λ l. slice_index_or l i []) h.before ∙ take_at [] first i rows lt
other_row first end rows s i h (inr le) =
    let e : end + (i - end) ≡ i = omega arith in
    ap (row_at s.store.locals) (sym e) ∙ sym (drop_at [] end (i - end) s.store.locals) ∙ ap (λ l. slice_index_or l (i - end) []) h.behind ∙ drop_at [] end (i - end) rows ∙ ap (row_at rows) e

-- where a place stands beside a function's own
own_or_not : (first end i : ℕ) → ((first ≤ i) × (i < end)) ⊎ ((i < first) ⊎ (end ≤ i))
own_or_not first end i = by_first (cases_lt i first)
  where
    by_end : first ≤ i → (i < end) ⊎ (end ≤ i) → ((first ≤ i) × (i < end)) ⊎ ((i < first) ⊎ (end ≤ i))
    by_end le (inl lt) = inl (le, lt)
    by_end le (inr past) = inr (inr past)

    by_first : (i < first) ⊎ (first ≤ i) → ((first ≤ i) × (i < end)) ⊎ ((i < first) ⊎ (end ≤ i))
    by_first (inl lt) = inr (inl lt)
    by_first (inr le) = by_end le (cases_lt i end)

module _ (first end : ℕ) (le : first ≤ end) where
  -- the words behind a body, once the function's own locals are back
  pub look_back : (v : Values) (s0 s2 s3 : State) → IsBack first end s0 s2 s3 → look v s3 ≡ image_back first end (look v s0) (look v s2)
  look_back v s0 s2 s3 B =
      let X = image_back first end (look v s0) (look v s2) in
      let locals : map (words v) s3.objects.locals.items ≡ X.locals = ap (map (words v)) B.locals ∙ back_mapped (words v) first end s0.objects.locals.items s2.objects.locals.items in
      ap (λ l. record { globals = map (words v) l; locals = map (words v) s3.objects.locals.items; members = map (words v) s3.objects.members.items; registers = words v s3.registers; inputs = words v s3.inputs; unknown = words v s3.unknown; wires = words v s3.wires; edges = bits v s3.edges; result = bits v s3.result }) B.globals
      ∙ ap (λ l. record { globals = X.globals; locals = l; members = map (words v) s3.objects.members.items; registers = words v s3.registers; inputs = words v s3.inputs; unknown = words v s3.unknown; wires = words v s3.wires; edges = bits v s3.edges; result = bits v s3.result }) locals
      ∙ ap (λ l. record { globals = X.globals; locals = X.locals; members = map (words v) l; registers = words v s3.registers; inputs = words v s3.inputs; unknown = words v s3.unknown; wires = words v s3.wires; edges = bits v s3.edges; result = bits v s3.result }) B.members
      ∙ ap (λ (l : List TermId). record { globals = X.globals; locals = X.locals; members = X.members; registers = words v l; inputs = words v s3.inputs; unknown = words v s3.unknown; wires = words v s3.wires; edges = bits v s3.edges; result = bits v s3.result }) B.registers
      ∙ ap (λ (l : List TermId). record { globals = X.globals; locals = X.locals; members = X.members; registers = X.registers; inputs = words v l; unknown = words v s3.unknown; wires = words v s3.wires; edges = bits v s3.edges; result = bits v s3.result }) B.inputs
      ∙ ap (λ (l : List TermId). record { globals = X.globals; locals = X.locals; members = X.members; registers = X.registers; inputs = X.inputs; unknown = words v l; wires = words v s3.wires; edges = bits v s3.edges; result = bits v s3.result }) B.unknown
      ∙ ap (λ (l : List TermId). record { globals = X.globals; locals = X.locals; members = X.members; registers = X.registers; inputs = X.inputs; unknown = X.unknown; wires = words v l; edges = bits v s3.edges; result = bits v s3.result }) B.wires
      ∙ ap (λ t. record { globals = X.globals; locals = X.locals; members = X.members; registers = X.registers; inputs = X.inputs; unknown = X.unknown; wires = X.wires; edges = bits v t; result = bits v s3.result }) B.edges
      ∙ ap (λ t. record { globals = X.globals; locals = X.locals; members = X.members; registers = X.registers; inputs = X.inputs; unknown = X.unknown; wires = X.wires; edges = X.edges; result = bits v t }) B.result

  -- where nothing was done, nothing is put back
  back_same : (x : Image) (n : ℕ) → image_back first end x (image_result x n) ≡ x
  back_same x n = ap (λ l. record { globals = x.globals; locals = l; members = x.members; registers = x.registers; inputs = x.inputs; unknown = x.unknown; wires = x.wires; edges = x.edges; result = x.result }) (back_self [] first end x.locals le)

  -- the caller's locals are back, and all else is as the body left it
  pub restored : (p : Pair) (visible inner : List ℕ) (x y : Image) (s s' : JointState) → ((i : ℕ) → Contains visible i → Contains inner i) → first ≤ length s.store.locals →
      IsState p visible x s → IsState p inner y s' → KeepsOthers first end s.store.locals s' → IsState p visible (image_back first end x y) (with_locals s' s.store.locals)
  restored p visible inner x y s s' sub some a b keeps =
      let rows = s.store.locals in
      let n : length x.locals ≡ length y.locals = a.local_count ∙ sym keeps.count ∙ sym b.local_count in
      let few : first ≤ length y.locals = subst (λ m. first ≤ m) (sym b.local_count) (subst (λ m. first ≤ m) (sym keeps.count) some) in
      let t : ℕ → IntType = λ i. slot_type p.program (Local i) in
      let back = rows_back first (rows_part first end x.locals) y.locals in
      let own : (i : ℕ) → first ≤ i → i < end → words_at back i ≡ words_at x.locals i = λ i l h. back_own [] first end i x.locals y.locals n few l h in
      let other : (i : ℕ) → (i < first) ⊎ (end ≤ i) → words_at back i ≡ words_at y.locals i = λ i d. others_at i x.locals y.locals n few d in
      record {
        globals = b.globals;
        locals = λ i h. locals_at i h n few (own_or_not first end i);
        members = b.members;
        global_count = b.global_count;
        local_count = back_length [] first end x.locals y.locals n few le ∙ b.local_count ∙ keeps.count;
        member_count = b.member_count;
        local_lengths = λ i. lengths_at i n few (own_or_not first end i);
        registers = b.registers;
        inputs = b.inputs;
        wires = b.wires;
        edges = b.edges;
      }
    where
      others_at : (i : ℕ) (xs ys : List (List ℕ)) → length xs ≡ length ys → first ≤ length ys → (i < first) ⊎ (end ≤ i) → words_at (rows_back first (rows_part first end xs) ys) i ≡ words_at ys i
      others_at i xs ys n few (inl lt) = back_low [] first end i xs ys n few le lt
      others_at i xs ys n few (inr past) = back_high [] first end i xs ys n few le past

      locals_at : (i : ℕ) → Contains visible i → length x.locals ≡ length y.locals → first ≤ length y.locals → ((first ≤ i) × (i < end)) ⊎ ((i < first) ⊎ (end ≤ i)) →
          numbers (slot_type p.program (Local i)) (words_at (rows_back first (rows_part first end x.locals) y.locals) i) ≡ row_at s.store.locals i
      locals_at i h n few (inl q) = ap (numbers (slot_type p.program (Local i))) (back_own [] first end i x.locals y.locals n few q.0 q.1) ∙ a.locals i h
      locals_at i h n few (inr q) = ap (numbers (slot_type p.program (Local i))) (others_at i x.locals y.locals n few q) ∙ b.locals i (sub i h) ∙ other_row first end s.store.locals s' i keeps q

      lengths_at : (i : ℕ) → length x.locals ≡ length y.locals → first ≤ length y.locals → ((first ≤ i) × (i < end)) ⊎ ((i < first) ⊎ (end ≤ i)) →
          length (words_at (rows_back first (rows_part first end x.locals) y.locals) i) ≡ length (row_at s.store.locals i)
      lengths_at i n few (inl q) = ap length (back_own [] first end i x.locals y.locals n few q.0 q.1) ∙ a.local_lengths i
      lengths_at i n few (inr q) = ap length (others_at i x.locals y.locals n few q) ∙ b.local_lengths i ∙ ap length (other_row first end s.store.locals s' i keeps q)

-- ---- in one valuation

one_way : (way : Way) → 1 ≡ way_bit Next way → way ≡ Next
one_way Next e = refl
one_way Breaking e = let d : suc zero ≡ zero = e in absurd (omega (arith, d))
one_way Continuing e = let d : suc zero ≡ zero = e in absurd (omega (arith, d))
one_way Returning e = let d : suc zero ≡ zero = e in absurd (omega (arith, d))

-- a run that only goes on comes to what it hands on
pub follows_comes : (run : List ℕ → Effect) (t : Trail) (value : JointState → ℤ) (n : ℤ) (mid : JointState → Type 0) → Follows run t (λ w. way_bit w Next) (λ way s. mid s × (value s ≡ n)) goes →
    ComesTo (λ c go. then_do (run c) (λ s rest. go (value s) s rest)) t n mid
follows_comes run (Halts reads stop) value n mid h = λ go. record { outcome = h.outcome; told = h.told; broken = h.broken; widths = h.widths; runs = λ rest. ap (λ e. then_do e (λ s rest. go (value s) s rest)) (h.runs rest) }
follows_comes run (Through reads) value n mid h = record {
  state = h.state;
  told = h.told;
  held = h.held.0;
  widths = h.widths;
  runs = λ go rest.
      ap (λ e. then_do e (λ s rest. go (value s) s rest)) (h.runs rest ∙ ap (λ w. preceded h.told (Goes w h.state nothing rest)) (one_way h.way (h.at Next)))
      ∙ ap (λ t. preceded t (go (value h.state) h.state rest)) (joined_nothing h.told) ∙ ap (λ z. preceded h.told (go z h.state rest)) h.held.1;
}

-- each state that a run goes on with has a property
pub follows_keeping : (P : JointState → Type 0) (run : List ℕ → Effect) (t : Trail) (guards : Way → ℕ) (holds : Way → JointState → Type 0) → ((c : List ℕ) → GoesWith P (run c)) → Follows run t guards holds goes → Follows run t guards (λ way s. holds way s × P s) goes
follows_keeping P run (Halts reads stop) guards holds keeps h = h
follows_keeping P run (Through reads) guards holds keeps h = record {
  way = h.way;
  state = h.state;
  told = h.told;
  at = h.at;
  held = (h.held, subst (GoesWith P) (h.runs []) (keeps (values_of reads ++ [])));
  widths = h.widths;
  runs = h.runs;
}

body_after : (is_main : Bool) (result : Option IntType) (rows : List (List ℤ)) → IsAfter (after_body is_main result rows)
body_after is_main result rows = record { stops = λ o told c. refl; precedes = precedes }
  where
    precedes : (told : Told) (e : Effect) → after_body is_main result rows (preceded told e) ≡ preceded told (after_body is_main result rows e)
    precedes told (Goes Next s more c) = sym (preceded_twice told more (closing is_main result (with_locals s rows) c))
    precedes told (Goes Breaking s more c) = sym (preceded_twice told more (closing is_main result (with_locals s rows) c))
    precedes told (Goes Continuing s more c) = sym (preceded_twice told more (closing is_main result (with_locals s rows) c))
    precedes told (Goes Returning s more c) = refl
    precedes told (Stops o more c) = refl
    precedes told TooFew = refl

fell_at : (guards : Way → ℕ) (way : Way) → IsAt guards way → fell_of guards ≡ fell_of (λ w. way_bit w way)
fell_at guards way at =
    ap (λ n. bit_or (bit_or n (guards Breaking)) (guards Continuing)) (at Next) ∙ ap (λ n. bit_or (bit_or (way_bit Next way) n) (guards Continuing)) (at Breaking)
    ∙ ap (bit_or (bit_or (way_bit Next way) (way_bit Breaking way))) (at Continuing)

fell_off : (guards : Way → ℕ) → ((way : Way) → guards way ≡ 0) → fell_of guards ≡ 0
fell_off guards off = ap (λ n. bit_or (bit_or n (guards Breaking)) (guards Continuing)) (off Next) ∙ ap (λ n. bit_or (bit_or 0 n) (guards Continuing)) (off Breaking) ∙ ap (bit_or 0) (off Continuing)

-- ---- a call

module _ (p : Pair) (first end : ℕ) (le : first ≤ end) (visible entered inner : List ℕ) (sub : (i : ℕ) → Contains visible i → Contains inner i) (is_main : Bool) (result : Option IntType)
    (n0 n1 n2 n3 n4 : Unrolled) (s0 s1 s1' s2 s3 : State) (params : Values → Onward) (body : Onward) (g : Guard) (f : Flow) (x : SizedTerm) where
  fixed : Image → Type 0
  fixed = IsSettled p

  -- what a run of the call does
  abbrev pub whole : Values → JointState → List ℕ → Effect
  whole v s c = after_body is_main result s.store.locals (then_do (params v s c) body)

  pub called : Sets (IsSettled p) n0 n1 s0 s1 params g (IsState p visible) (IsState p entered) →
      ((v : Values) → Respects v n2.terms → (Respects v n1.terms) × ((n : ℕ) × (look v s1' ≡ image_result (look v s1) n))) → n2.list ≡ n1.list →
      Unwinds (IsSettled p) n2 n3 s1' s2 (λ v. body) g f (IsState p entered) (IsBehind p inner result) goes →
      IsBack first end s0 s2 s3 → Closes n3 n4 s2 is_main result (λ v. fell_of (bits_of v f)) x →
      ((v : Values) (s : JointState) (c : List ℕ) → GoesWith (KeepsOthers first end s.store.locals) (params v s c)) →
      ((rows : List (List ℤ)) (s : JointState) (c : List ℕ) → KeepsOthers first end rows s → GoesWith (KeepsOthers first end rows) (body s c)) →
      first ≤ length s0.objects.locals.items →
      Returns (IsSettled p) n0 n4 s0 s3 (type_or_int result) (λ v s c go. then_do (whole v s c) (λ s' rest. go (handed result s') s' rest)) g x (IsState p visible) (IsState p visible)
  called P Z same B K C params_keep body_keep few = record {
    grown = λ v r. P.grown v (r1 v r);
    more = B.more ++ C.more;
    list = C.list ∙ ap (λ l. l ++ C.more) (B.list ∙ ap (λ l. l ++ B.more) (same ∙ P.list)) ∙ append_assoc n0.list B.more C.more;
    settled = λ v r q. subst (IsSettled p) (sym (look_back first end le v s0 s2 s3 K)) (B.settled v (r3 v r) (subst (IsSettled p) (sym (result_is v r)) (P.settled v (r1 v r) q)));
    passes = λ v r o q.
        let b = B.idle v (r3 v r) o (fixed1 v r q) in
        trail-append v B.more C.more ∙ ap (λ t. trail_then t (trail v C.more)) b.passes ∙ then_nothing (trail v C.more) ∙ C.passes v r (fell_off (bits_of v f) b.off);
    kept = λ v r o q.
        let b = B.idle v (r3 v r) o (fixed1 v r q) in
        look_back first end le v s0 s2 s3 K ∙ ap (image_back first end (look v s0)) (b.kept ∙ result_is v r ∙ ap (λ y. image_result y (number_at v r)) (P.kept v (r1 v r) o q)) ∙ back_same first end le (look v s0) (number_at v r);
    live = λ v r l q s h. follows_comes (whole v s) (trail v (B.more ++ C.more)) (handed result) (word v) (IsState p visible (look v s3)) (follows v r l q s h);
  }
    where
      r3 : (v : Values) → Respects v n4.terms → Respects v n3.terms
      r3 v r = C.grown v r

      r2 : (v : Values) → Respects v n4.terms → Respects v n2.terms
      r2 v r = B.grown v (r3 v r)

      r1 : (v : Values) → Respects v n4.terms → Respects v n1.terms
      r1 v r = (Z v (r2 v r)).0

      number_at : (v : Values) → Respects v n4.terms → ℕ
      number_at v r = (Z v (r2 v r)).1.0

      result_is : (v : Values) (r : Respects v n4.terms) → look v s1' ≡ image_result (look v s1) (number_at v r)
      result_is v r = (Z v (r2 v r)).1.1

      fixed1 : (v : Values) → Respects v n4.terms → IsSettled p (look v s0) → IsSettled p (look v s1')
      fixed1 v r q = subst (IsSettled p) (sym (result_is v r)) (P.settled v (r1 v r) q)

      word : Values → ℤ
      word v = number (type_or_int result).signed (type_or_int result).bits (bits v x)

      Held : Values → Way → JointState → Type 0
      Held v way s = IsState p visible (look v s3) s × (handed result s ≡ word v)

      some_rows : (v : Values) (s : JointState) → IsState p visible (look v s0) s → first ≤ length s.store.locals
      some_rows v s h = subst (λ n. first ≤ n) (sym (length-map s0.objects.locals.items (words v)) ∙ h.local_count) few

      -- the state behind the body, with the caller's locals
      there : (v : Values) (r : Respects v n4.terms) (s s' : JointState) → IsState p visible (look v s0) s → IsState p inner (look v s2) s' → KeepsOthers first end s.store.locals s' → IsState p visible (look v s3) (with_locals s' s.store.locals)
      there v r s s' h h' k =
          subst (λ y. IsState p visible y (with_locals s' s.store.locals)) (sym (look_back first end le v s0 s2 s3 K)) (restored first end le p visible inner (look v s0) (look v s2) s s' sub (some_rows v s h) h h' k)

      -- the closing brace
      closes : (v : Values) (r : Respects v n4.terms) (s s' : JointState) (way : Way) → IsAt (bits_of v f) way → fell_of (λ w. way_bit w way) ≡ 1 → IsState p visible (look v s3) (with_locals s' s.store.locals) → (run : List ℕ → Effect) →
          ((c : List ℕ) → closing is_main result (with_locals s' s.store.locals) c ≡ run c) → Follows run (trail v C.more) (λ w. way_bit w Next) (Held v) goes
      closes v r s s' way at one h run is =
          follows_as (closing is_main result (with_locals s' s.store.locals)) run (trail v C.more) (λ w. way_bit w Next) (λ w. way_bit w Next) (λ way s''. IsClosed result (with_locals s' s.store.locals) s'' (word v)) (Held v) goes goes (λ w. w) is
          (λ w at'. at')
          (λ w s'' q. (subst (λ (z : JointState). IsState p visible (look v s3) z) (sym q.state) (returning_state p visible (look v s3) (with_locals s' s.store.locals) q.number h), q.handed))
          (λ w s'' c q. refl) (C.live v r (fell_at (bits_of v f) way at ∙ one) (with_locals s' s.store.locals))

      behind : (v : Values) (r : Respects v n4.terms) (s : JointState) → IsState p visible (look v s0) s → (way : Way) → IsAt (bits_of v f) way → (s' : JointState) → IsBehind p inner result way (look v s2) s' × KeepsOthers first end s.store.locals s' →
          Follows (λ c. after_body is_main result s.store.locals (goes way s' c)) (trail v C.more) (λ w. way_bit w Next) (Held v) goes
      behind v r s h Returning at s' q =
          let none : fell_of (bits_of v f) ≡ 0 = fell_at (bits_of v f) Returning at in
          subst (λ t. Follows (λ c. Goes Next (with_locals s' s.store.locals) nothing c) t (λ w. way_bit w Next) (Held v) goes) (sym (C.passes v r none))
          (stays_follows Next (with_locals s' s.store.locals) (λ w. way_bit w Next) (Held v) goes (λ w. refl)
          (there v r s s' h q.0.state q.1, handed_back result s' s.store.locals ∙ C.returned v r none s' q.0.returned))
        where
          handed_back : (result : Option IntType) (s' : JointState) (rows : List (List ℤ)) → handed result (with_locals s' rows) ≡ handed result s'
          handed_back None s' rows = refl
          handed_back (Some t) s' rows = refl
      behind v r s h Next at s' q = closes v r s s' Next at refl (there v r s s' h q.0.state q.1) (λ c. after_body is_main result s.store.locals (goes Next s' c)) (λ c. sym (preceded_nothing (closing is_main result (with_locals s' s.store.locals) c)))
      behind v r s h Breaking at s' q = closes v r s s' Breaking at refl (there v r s s' h q.0.state q.1) (λ c. after_body is_main result s.store.locals (goes Breaking s' c)) (λ c. sym (preceded_nothing (closing is_main result (with_locals s' s.store.locals) c)))
      behind v r s h Continuing at s' q = closes v r s s' Continuing at refl (there v r s s' h q.0.state q.1) (λ c. after_body is_main result s.store.locals (goes Continuing s' c)) (λ c. sym (preceded_nothing (closing is_main result (with_locals s' s.store.locals) c)))

      follows : (v : Values) (r : Respects v n4.terms) → bit_at v g ≡ 1 → IsSettled p (look v s0) → (s : JointState) → IsState p visible (look v s0) s → Follows (whole v s) (trail v (B.more ++ C.more)) (λ w. way_bit w Next) (Held v) goes
      follows v r l q s h =
          let rows = s.store.locals in
          let s' = P.next v s in
          let told = P.told v s in
          let at_params : (c : List ℕ) → params v s c ≡ Goes Next s' told c = P.goes v (r1 v r) l q s h in
          let mid : IsState p entered (look v s1') s' = subst (λ y. IsState p entered y s') (sym (result_is v r)) (result_state p entered (look v s1) (number_at v r) s' (P.changed v (r1 v r) l q s h)) in
          let kept : KeepsOthers first end rows s' = subst (GoesWith (KeepsOthers first end rows)) (at_params []) (params_keep v s []) in
          let ran = follows_keeping (KeepsOthers first end rows) (body s') (trail v B.more) (bits_of v f) (λ way. IsBehind p inner result way (look v s2)) (λ c. body_keep rows s' c kept) (B.live v (r3 v r) l (fixed1 v r q) s' mid) in
          let mapped = follows_mapped (after_body is_main result rows) (body_after is_main result rows) (body s') (trail v B.more) (bits_of v f) (λ way z. IsBehind p inner result way (look v s2) z × KeepsOthers first end rows z) goes ran in
          let both = bind_follows (λ c. after_body is_main result rows (body s' c)) (trail v B.more) (trail v C.more) (bits_of v f) (λ w. way_bit w Next) (λ way z. IsBehind p inner result way (look v s2) z × KeepsOthers first end rows z) (Held v)
          (λ way z c. after_body is_main result rows (goes way z c)) goes mapped (λ way at z k. behind v r s h way at z k) in
          subst (λ t. Follows (whole v s) t (λ w. way_bit w Next) (Held v) goes) (then_nothing (trail_then (trail v B.more) (trail v C.more)) ∙ sym (trail-append v B.more C.more))
          (bind_follows (whole v s) (Through []) (trail_then (trail v B.more) (trail v C.more)) (λ w. way_bit w Next) (λ w. way_bit w Next) (λ way z. z ≡ s') (Held v) (λ way z c. after_body is_main result rows (body z c)) goes
          (record {
            way = Next;
            state = s';
            told = told;
            at = λ w. refl;
            held = refl;
            widths = P.quiet v s;
            runs = λ rest. ap (λ e. after_body is_main result rows (then_do e body)) (at_params rest) ∙ (body_after is_main result rows).precedes told (body s' rest);
          })
          (λ way at z e. subst (λ (z : JointState). Follows (λ c. after_body is_main result rows (body z c)) (trail_then (trail v B.more) (trail v C.more)) (λ w. way_bit w Next) (Held v) goes) (sym e) both))
