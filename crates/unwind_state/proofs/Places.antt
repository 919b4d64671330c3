-- A write of the element at an index that is a term, one place after another.
use Rattle.std.proofs.Common.{◌≡◌, ℕ, zero, suc, ◌+◌, ◌<◌, ◌≤◌, ◌^◌, Bool, true, false, List, [], length, map, min, refl, sym, ap, ◌∙◌, subst, arith}
use Rattle.std.specs.Prelude.{ℤ, bit_and, nat_lt, nat_eq, slice_set, slice_get, slice_index_or, Some}
use Rattle.std.specs.Int.Bits.{and_zero_r}
use Rattle.std.proofs.Math.ListN.{get_or-map as get_or-mapped}
use Rattle.std.proofs.lemmas.Bool.Decides.{nat_tests}
use Rattle.std.proofs.lemmas.List.{set_past, set-get_or, length-map}
use Rattle.bits_core.specs.Word.{number, at_zero, bit}
use Rattle.word_eqs.specs.declared.term.TermId.{TermId}
use Rattle.word_eqs.specs.Graph.{Graph, IsGraph}
use Rattle.word_eqs.specs.Meaning.{Values, Respects}
use Rattle.joint_ir.specs.declared.expr.Slot.{Slot}
use Rattle.joint_ir.specs.declared.expr.Slot.TheVariants.{Global, Local, Member, BoundValue}
use Rattle.joint_ir.specs.declared.pair.Pair.{Pair}
use Rattle.joint_ir.specs.declared.program.CProgram.{CProgram}
use Rattle.joint_ir.specs.States.{JointState, put}
use Rattle.joint_ir.specs.Steps.{with_store, slot_type}
use Rattle.sized_terms.specs.declared.SizedTerm.{SizedTerm}
use Rattle.sized_terms.specs.Sized.{Has, bits}
use Rattle.sized_terms.proofs.Made.{bits_below}
use Rattle.unrolled.specs.declared.Objects.{Objects}
use Rattle.unrolled.specs.declared.Unrolled.{Unrolled}
use Rattle.unrolled.specs.Elements.{terms_of}
use Rattle.unwind_state.specs.declared.state.Guard.{Guard}
use Rattle.unwind_state.specs.declared.state.State.{State}
use Rattle.unwind_state.specs.Guards.{bit_at, HasGuard, Adds, IsGuard}
use Rattle.unwind_state.specs.Images.{Image, words, words_at, look, IsState, IsSettled}
use Rattle.unwind_state.specs.Unwinding.{Changes}
use Rattle.unwind_state.specs.Writing.{IsPut, IsPutAt, HasObjects, words_put, image_put, image_put_if, with_objects}
use Rattle.unwind_state.proofs.Gates.{adds_none, adds_then, guard_below}
use Rattle.unwind_state.proofs.Puts.{look_set, put_same, put_settled, image_state, row_is_there, put_has}

-- a write of one element, as an image
put_look : (n0 n1 : Unrolled) (v : Values) (s : State) (o : Objects) (slot : Slot) (j : ℕ) (value : SizedTerm) (g : Guard) → j < length (terms_of s.objects slot) → IsPut n0 n1 s.objects o slot j value g → Respects v n1.terms →
    look v (with_objects s o) ≡ image_put_if (bit_at v g) (look v s) slot j (bits v value)
put_look n0 n1 v s o slot j value g lt P r = look_set v s o slot j P.term lt P.set ∙ ap (image_put (look v s) slot j) (P.is v r) ∙ by_bit (bit_at v g)
  where
    by_bit : (b : ℕ) → image_put (look v s) slot j (at_zero b (slice_index_or (words v (terms_of s.objects slot)) j 0) (bits v value)) ≡ image_put_if b (look v s) slot j (bits v value)
    by_bit zero = put_same v s slot j lt
    by_bit (suc b) = refl

-- one place after those before it
next_place : (x : Image) (slot : Slot) (b j k n : ℕ) →
    image_put_if (bit_and b (bit (nat_eq j k))) (image_put_if (bit_and b (bit (nat_lt j k))) x slot j n) slot k n ≡ image_put_if (bit_and b (bit (nat_lt j (k + 1)))) x slot j n
next_place x slot b j k n = by_less (nat_lt j k) refl
  where
    under : Bool → Image → ℕ → Image
    under c y i = image_put_if (bit_and b (bit c)) y slot i n

    none : (y : Image) (i : ℕ) → under false y i ≡ y
    none y i = ap (λ m. image_put_if m y slot i n) (and_zero_r b)

    by_equal : (c : Bool) → nat_lt j k ≡ false → nat_eq j k ≡ c → under c (under false x j) k ≡ under (nat_lt j (k + 1)) x j
    by_equal true l e =
        let q : j ≡ k = grind (arith, nat_tests) in
        let m : nat_lt j (k + 1) ≡ true = grind (arith, nat_tests) in
        ap (λ y. under true y k) (none x j) ∙ ap (under true x) (sym q) ∙ sym (ap (λ c. under c x j) m)
    by_equal false l e =
        let m : nat_lt j (k + 1) ≡ false = grind (arith, nat_tests) in
        none (under false x j) k ∙ sym (ap (λ c. under c x j) m)

    by_less : (c : Bool) → nat_lt j k ≡ c → under (nat_eq j k) (under (nat_lt j k) x j) k ≡ under (nat_lt j (k + 1)) x j
    by_less true l =
        let e : nat_eq j k ≡ false = grind (arith, nat_tests) in
        let m : nat_lt j (k + 1) ≡ true = grind (arith, nat_tests) in
        ap (λ c. under c (under (nat_lt j k) x j) k) e ∙ none (under (nat_lt j k) x j) k ∙ ap (λ c. under c x j) (l ∙ sym m)
    by_less false l = ap (λ c. under (nat_eq j k) (under c x j) k) l ∙ by_equal (nat_eq j k) l refl

-- the places before k were looked at
abbrev pub before_place : Guard → SizedTerm → (k : ℕ) → Values → ℕ
before_place g index k v = bit_and (bit_at v g) (bit (nat_lt (bits v index) k))

pub put_none : (n : Unrolled) (o : Objects) (slot : Slot) (index value : SizedTerm) (g : Guard) → IsGraph n.terms → IsPutAt n n o o slot index value (before_place g index 0)
put_none n o slot index value g proper = record {
  adds = adds_none n proper;
  objects = λ p w h. h;
  image = λ s v r.
      let l : nat_lt (bits v index) 0 ≡ false = grind (arith, nat_tests) in
      sym (ap (λ b. image_put_if b (look v (with_objects s o)) slot (bits v index) (bits v value)) (ap (λ c. bit_and (bit_at v g) (bit c)) l ∙ and_zero_r (bit_at v g)));
}

pub put_more : (n0 n1 n2 n3 : Unrolled) (o0 o1 o2 : Objects) (slot : Slot) (k : ℕ) (index value : SizedTerm) (g there : Guard) → k < length (terms_of o1 slot) → IsPutAt n0 n1 o0 o1 slot index value (before_place g index k) → Adds n1 n2 →
    ((v : Values) → Respects v n2.terms → bit_at v there ≡ bit_and (bit_at v g) (bit (nat_eq (bits v index) k))) → IsPut n2 n3 o1 o2 slot k value there → IsPutAt n0 n3 o0 o2 slot index value (before_place g index (k + 1))
put_more n0 n1 n2 n3 o0 o1 o2 slot k index value g there lt A L is P = record {
  adds = adds_then n0 n1 n3 A.adds (adds_then n1 n2 n3 L P.adds);
  objects = λ p w h.
      let q = A.objects p w h in
      put_has p n2 n3 o1 o2 slot k value there w P (record { count = q.count; has = λ other at i t e. L.kept _ (q.has other at i t e) });
  image = λ s v r.
      let r2 = P.adds.grown v r in
      put_look n2 n3 v (with_objects s o1) o2 slot k value there lt P r ∙ ap (λ b. image_put_if b (look v (with_objects s o1)) slot k (bits v value)) (is v r2)
      ∙ ap (λ y. image_put_if (bit_and (bit_at v g) (bit (nat_eq (bits v index) k))) y slot k (bits v value)) (A.image s v (L.grown v r2))
      ∙ next_place (look v (with_objects s o0)) slot (bit_at v g) (bits v index) k (bits v value);
}

-- what stands past the end of an object

past_rows : (v : Values) (rows : List (List TermId)) (i j n : ℕ) → length (slice_index_or rows i []) ≤ j → words_put (map (words v) rows) i j n ≡ map (words v) rows
past_rows v rows i j n le =
    let e : words_at (map (words v) rows) i ≡ words v (slice_index_or rows i []) = get_or-mapped (words v) rows i [] in
    let l : length (words_at (map (words v) rows) i) ≤ j = subst (λ k. k ≤ j) (sym (ap length e ∙ length-map (slice_index_or rows i []) (λ (t : TermId). (v.term t.0).value))) le in
    ap (slice_set (map (words v) rows) i) (set_past (words_at (map (words v) rows) i) j n l) ∙ set-get_or (map (words v) rows) i []

-- an image by its three classes of objects
abbrev image_of : Image → (globals locals members : List (List ℕ)) → Image
image_of x g l m = record { globals = g; locals = l; members = m; registers = x.registers; inputs = x.inputs; unknown = x.unknown; wires = x.wires; edges = x.edges; result = x.result }

put_past : (v : Values) (s : State) (slot : Slot) (j n : ℕ) → length (terms_of s.objects slot) ≤ j → image_put (look v s) slot j n ≡ look v s
put_past v s (Global i) j n le = ap (λ k. image_of (look v s) k (look v s).locals (look v s).members) (past_rows v s.objects.globals.items i j n le)
put_past v s (Local i) j n le = ap (λ k. image_of (look v s) (look v s).globals k (look v s).members) (past_rows v s.objects.locals.items i j n le)
put_past v s (Member i) j n le = ap (image_of (look v s) (look v s).globals (look v s).locals) (past_rows v s.objects.members.items i j n le)
put_past v s BoundValue j n le = refl

and_one : (b : ℕ) → b < 2 → bit_and b 1 ≡ b
and_one zero h = refl
and_one (suc zero) h = refl
and_one (suc (suc b)) h = absurd (omega arith)

either_image : (b : ℕ) (x : Image) → at_zero b x x ≡ x
either_image zero x = refl
either_image (suc b) x = refl

-- all places that the index can name were looked at
pub put_all : (n0 n1 : Unrolled) (o0 o1 : Objects) (slot : Slot) (k : ℕ) (index value : SizedTerm) (g : Guard) → Has n0.terms index → HasGuard n0.terms g → IsGraph n0.terms → k ≡ min (length (terms_of o0 slot)) (2 ^ index.width) →
    IsPutAt n0 n1 o0 o1 slot index value (before_place g index k) → IsPutAt n0 n1 o0 o1 slot index value (λ v. bit_at v g)
put_all n0 n1 o0 o1 slot k index value g has guard proper most A = record {
  adds = A.adds;
  objects = A.objects;
  image = λ s v r. A.image s v r ∙ by_test s v r (nat_lt (bits v index) k) refl;
}
  where
    by_test : (s : State) (v : Values) → Respects v n1.terms → (c : Bool) → nat_lt (bits v index) k ≡ c →
        image_put_if (bit_and (bit_at v g) (bit (nat_lt (bits v index) k))) (look v (with_objects s o0)) slot (bits v index) (bits v value) ≡ image_put_if (bit_at v g) (look v (with_objects s o0)) slot (bits v index) (bits v value)
    by_test s v r true e =
        ap (λ b. image_put_if b (look v (with_objects s o0)) slot (bits v index) (bits v value))
        (ap (λ c. bit_and (bit_at v g) (bit c)) e ∙ and_one (bit_at v g) (guard_below v n0.terms g proper (A.adds.grown v r) guard))
    by_test s v r false e =
        let small : bits v index < 2 ^ index.width = bits_below v n0.terms index proper (A.adds.grown v r) has in
        let far : k ≤ bits v index = grind (arith, nat_tests) in
        let past : length (terms_of o0 slot) ≤ bits v index = grind arith in
        ap (λ b. image_put_if b (look v (with_objects s o0)) slot (bits v index) (bits v value)) (ap (λ c. bit_and (bit_at v g) (bit c)) e ∙ and_zero_r (bit_at v g))
        ∙ sym (ap (at_zero (bit_at v g) (look v (with_objects s o0))) (put_past v (with_objects s o0) slot (bits v index) (bits v value) past) ∙ either_image (bit_at v g) (look v (with_objects s o0)))

-- a write through an index as a change of the run's state
pub put_at_changes : (p : Pair) (visible : List ℕ) (n0 n1 : Unrolled) (s : State) (o : Objects) (slot : Slot) (index value : SizedTerm) (g : Guard) → 0 < length (terms_of s.objects slot) → IsPutAt n0 n1 s.objects o slot index value (λ v. bit_at v g) →
    Changes (IsSettled p) n0 n1 s (with_objects s o) g (IsState p visible) (IsState p visible) (λ v x. with_store x (put x.store slot (bits v index) (number (slot_type p.program slot).signed (slot_type p.program slot).bits (bits v value))))
put_at_changes p visible n0 n1 s o slot index value g some P = record {
  grown = P.adds.grown;
  list = P.adds.list;
  settled = λ v r x. subst (IsSettled p) (sym (P.image s v r)) (by_bit (bit_at v g) (look v s) (bits v index) (bits v value) x);
  kept = λ v r e x. P.image s v r ∙ ap (λ b. image_put_if b (look v s) slot (bits v index) (bits v value)) e;
  changed = λ v r e x q h.
      subst (λ y. IsState p visible y (with_store q (put q.store slot (bits v index) (number (slot_type p.program slot).signed (slot_type p.program slot).bits (bits v value)))))
      (sym (P.image s v r ∙ ap (λ b. image_put_if b (look v s) slot (bits v index) (bits v value)) e))
      (image_state p visible (look v s) q slot (bits v index) (bits v value) (row_is_there v s slot 0 some) h);
}
  where
    by_bit : (b : ℕ) (x : Image) (j n : ℕ) → IsSettled p x → IsSettled p (image_put_if b x slot j n)
    by_bit zero x j n h = h
    by_bit (suc b) x j n h = put_settled p x slot j n h
