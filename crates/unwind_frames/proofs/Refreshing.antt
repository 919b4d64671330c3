-- A view with the mirror filled from it, and a state that is at another view.
use Rattle.std.proofs.Common.{◌≡◌, ℕ, zero, suc, List, [], ◌∷◌, length, map, true, false, refl, sym, ap, ◌∙◌, subst, arith}
use Rattle.std.specs.Prelude.{ℤ, Option, Some, None, IsSome, slice_get, slice_index_or}
use Rattle.std.specs.Global.{Vec}
use Rattle.std.proofs.lemmas.List.{length-map}
use Rattle.std.proofs.lemmas.Option.{same_Some}
use Rattle.word_eqs.specs.declared.term.TermId.{TermId}
use Rattle.word_eqs.specs.Graph.{Graph, width_in}
use Rattle.word_eqs.specs.Meaning.{Values}
use Rattle.joint_ir.specs.declared.ctype.IntType.{IntType}
use Rattle.joint_ir.specs.declared.expr.Slot.{Slot}
use Rattle.joint_ir.specs.declared.expr.Slot.TheVariants.{Global, Local, Member, BoundValue}
use Rattle.joint_ir.specs.declared.module.Role.TheVariants.{Input, Register, Wire}
use Rattle.joint_ir.specs.declared.pair.Pair.{Pair}
use Rattle.joint_ir.specs.declared.program.Member.{Member as AMember}
use Rattle.joint_ir.specs.States.{copies, element_count, row_at}
use Rattle.joint_ir.specs.Steps.{type_or_int, member_type, slot_type}
use Rattle.joint_ir.specs.Views.{widths_of, site_widths, settled_wires, signal_words, filled, filled_from, members_of}
use Rattle.joint_ir.specs.Weights.{slot_length, member_length}
use Rattle.joint_ir.specs.WellFormed.{AreTerms}
use Rattle.sized_terms.specs.Sized.{Has, bits}
use Rattle.unrolled.specs.declared.Objects.{Objects}
use Rattle.unrolled.specs.declared.Unrolled.{Unrolled}
use Rattle.unrolled.specs.Elements.{terms_of}
use Rattle.unwind_state.specs.declared.state.Guard.{Guard}
use Rattle.unwind_state.specs.declared.state.State.{State}
use Rattle.unwind_state.specs.Images.{Image, words, words_at, numbers}
use Rattle.unwind_state.specs.Unwinding.{Grows}
use Rattle.unwind_state.specs.Writing.{HasObjects, IsThere, sized}
use Rattle.unwind_state.proofs.Gates.{adds_then}
use Rattle.unwind_module.specs.Words.{HasModule, member_elements, elements_of}
use Rattle.unwind_module.proofs.Terms.{grows_adds, terms_none, terms_cons, terms_head, terms_tail, terms_kept, terms_length}
use Rattle.unwind_words.specs.Rows.{AreRows, AreAlikeRows, HasSignals, HasMirror, AreChosenRows, member_widths, member_numbers}
use Rattle.unwind_words.proofs.Rows.{rows_kept, rows_length, row_there, rows_alike, widths_are}
use Rattle.unwind_words.proofs.Showing.{copies_length, member_widths_at}
use Rattle.unwind_frames.specs.declared.views.Sources.{Sources}
use Rattle.unwind_frames.specs.declared.views.Shown.{Shown}
use Rattle.unwind_frames.specs.Frames.{AreSettled, HasSources, IsShown, IsRefreshed, settled_from}

pub view_made : (p : Pair) (n0 n1 n2 n3 : Unrolled) (x : Sources) (wires : List TermId) (rows : List (List TermId)) (members : Vec (List TermId)) → AreSettled p.module n0 n1 x.registers x.inputs x.unknown wires →
    HasSignals n1 n2 p.module.signals x.registers x.inputs wires rows → HasMirror p n2 n3 rows members.items → IsShown p n0 n3 x (record { wires = wires; members = members })
view_made p n0 n1 n2 n3 x wires rows members S G M =
    let later = adds_then n1 n2 n3 G.adds M.adds in
    record {
      adds = adds_then n0 n1 n3 S.adds later;
      wires_ = terms_kept n1.terms n3.terms wires (widths_of Wire p.module.signals) (grows_adds n1 n3 later) S.terms;
      members_ = M.terms;
      settled = λ v r. S.value v (later.grown v r);
      stand = λ v r.
          M.stand v r
          ∙ ap (λ l. filled_from p.binding.links p.module.signals l 0 (members_of p.program.mirror))
          (G.stand v (M.adds.grown v r) ∙ ap (signal_words p.module.signals (words v x.registers) (words v x.inputs)) (S.value v (later.grown v r)));
    }

-- rows of terms of the mirror's members, as a state has them

row_made : (g : Graph) (w : ℕ) (row : List TermId) (n : ℕ) → length row ≡ n → ((k : ℕ) (t : TermId) → slice_get row k ≡ Some t → Has g (sized t w)) → AreTerms g row (copies n w)
row_made g w [] zero e h = terms_none g
row_made g w [] (suc n) e h = absurd (omega arith)
row_made g w (t ∷ row) zero e h = absurd (omega arith)
row_made g w (t ∷ row) (suc n) e h = terms_cons g t row w (copies n w) (h 0 t refl) (row_made g w row n (omega arith) (λ k u d. h (suc k) u d))

rows_made : (g : Graph) (members : List AMember) (rows : List (List TermId)) → map (λ (row : List TermId). length row) rows ≡ map member_elements members →
    ((i : ℕ) (m : AMember) → slice_get members i ≡ Some m → (k : ℕ) (t : TermId) → slice_get (slice_index_or rows i []) k ≡ Some t → Has g (sized t (type_or_int m.ty).bits)) → AreRows g rows (member_widths members)
rows_made g [] [] e h = tt
rows_made g [] (row ∷ rows) e h = let q : length row ∷ map (λ (row : List TermId). length row) rows ≡ [] = e in cc
rows_made g (m ∷ members) [] e h = let q : [] ≡ member_elements m ∷ map member_elements members = e in cc
rows_made g (m ∷ members) (row ∷ rows) e h =
    let q : length row ∷ map (λ (row : List TermId). length row) rows ≡ member_elements m ∷ map member_elements members = e in
    let one : length row ≡ member_elements m = cc in
    let rest : map (λ (row : List TermId). length row) rows ≡ map member_elements members = cc in
    (row_made g (type_or_int m.ty).bits row (member_elements m) one (h 0 m refl), rows_made g members rows rest (λ i x at. h (suc i) x at))

lengths_at : (members : List AMember) (rows : List (List TermId)) (i : ℕ) (m : AMember) → map (λ (row : List TermId). length row) rows ≡ map member_elements members → slice_get members i ≡ Some m → length (slice_index_or rows i []) ≡ member_elements m
lengths_at [] rows i m e at = let d : None ≡ Some m = at in cc
lengths_at (x ∷ members) [] i m e at = let q : [] ≡ member_elements x ∷ map member_elements members = e in cc
lengths_at (x ∷ members) (row ∷ rows) zero m e at =
    let q : length row ∷ map (λ (row : List TermId). length row) rows ≡ member_elements x ∷ map member_elements members = e in
    let one : length row ≡ member_elements x = cc in
    one ∙ ap member_elements (same_Some x m at)
lengths_at (x ∷ members) (row ∷ rows) (suc i) m e at =
    let q : length row ∷ map (λ (row : List TermId). length row) rows ≡ member_elements x ∷ map member_elements members = e in
    let rest : map (λ (row : List TermId). length row) rows ≡ map member_elements members = cc in
    lengths_at members rows i m rest at

no_element : (row : List TermId) (k : ℕ) (t : TermId) → length row ≡ 0 → slice_get row k ≡ Some t → ⊥
no_element [] k t e at = let d : None ≡ Some t = at in cc
no_element (u ∷ row) k t e at = absurd (omega arith)

pub state_rows : (p : Pair) (g : Graph) (s : State) → HasObjects p.program g s.objects → HasModule p g s → AreRows g s.objects.members.items (member_widths (members_of p.program.mirror))
state_rows p g s O M = rows_made g (members_of p.program.mirror) s.objects.members.items M.sources.mirror has
  where
    has : (i : ℕ) (m : AMember) → slice_get (members_of p.program.mirror) i ≡ Some m → (k : ℕ) (t : TermId) → slice_get (slice_index_or s.objects.members.items i []) k ≡ Some t → Has g (sized t (type_or_int m.ty).bits)
    has i m at k t e = by m.ty refl
      where
        by : (o : Option IntType) → m.ty ≡ o → Has g (sized t (type_or_int m.ty).bits)
        by None d =
            let none : length (slice_index_or s.objects.members.items i []) ≡ 0 = lengths_at (members_of p.program.mirror) s.objects.members.items i m M.sources.mirror at ∙ ap (λ o. elements_of o m.length) d in
            absurd (no_element (slice_index_or s.objects.members.items i []) k t none e)
        by (Some ty) d =
            subst (λ (o : Option AMember). Has g (sized t (member_type o).bits)) at (O.has (Member i) (m, at, subst (λ (o : Option IntType). IsSome o) (sym d) refl) k t e)

copy_at : (g : Graph) (n w : ℕ) (ids : List TermId) (k : ℕ) (t : TermId) → AreTerms g ids (copies n w) → slice_get ids k ≡ Some t → Has g (sized t w)
copy_at g n w [] k t a e = let d : None ≡ Some t = e in cc
copy_at g zero w (u ∷ ids) k t a e = let q : width_in g u.0 ∷ map (λ (y : TermId). width_in g y.0) ids ≡ [] = a.sized in cc
copy_at g (suc n) w (u ∷ ids) zero t a e = subst (λ (y : TermId). Has g (sized y w)) (same_Some u t e) (terms_head g u ids w (copies n w) a)
copy_at g (suc n) w (u ∷ ids) (suc k) t a e = copy_at g n w ids k t (terms_tail g u ids w (copies n w) a) e

some_type : (o : Option IntType) (n : ℕ) → IsSome o → elements_of o n ≡ element_count n
some_type None n h = let d : false ≡ true = h in cc
some_type (Some t) n h = refl

-- a member's row has as many terms as elements, of its type's width
pub member_count : (p : Pair) (h : Graph) (rows : List (List TermId)) → AreRows h rows (member_widths (members_of p.program.mirror)) → (i : ℕ) → IsThere p.program (Member i) → length (slice_index_or rows i []) ≡ element_count (slot_length p.program (Member i))
member_count p h rows R i w =
    let m = w.0 in
    let a = row_there h rows (member_widths (members_of p.program.mirror)) i (copies (member_elements m) (type_or_int m.ty).bits) R (member_widths_at (members_of p.program.mirror) i m w.1) in
    terms_length h (slice_index_or rows i []) (copies (member_elements m) (type_or_int m.ty).bits) a ∙ copies_length (member_elements m) (type_or_int m.ty).bits
    ∙ some_type m.ty m.length w.2 ∙ ap (λ (x : Option AMember). element_count (member_length x)) (sym w.1)

pub member_has : (p : Pair) (h : Graph) (rows : List (List TermId)) → AreRows h rows (member_widths (members_of p.program.mirror)) → (i : ℕ) → IsThere p.program (Member i) → (k : ℕ) (t : TermId) → slice_get (slice_index_or rows i []) k ≡ Some t → Has h (sized t (slot_type p.program (Member i)).bits)
member_has p h rows R i w k t e =
    let m = w.0 in
    let a = row_there h rows (member_widths (members_of p.program.mirror)) i (copies (member_elements m) (type_or_int m.ty).bits) R (member_widths_at (members_of p.program.mirror) i m w.1) in
    subst (λ (x : Option AMember). Has h (sized t (member_type x).bits)) (sym w.1) (copy_at h (member_elements m) (type_or_int m.ty).bits (slice_index_or rows i []) k t a e)

-- objects have terms, those of the mirror from its rows
pub objects_made : (p : Pair) (g h : Graph) (o new : Objects) → new.globals.items ≡ o.globals.items → new.locals.items ≡ o.locals.items → Grows g h → HasObjects p.program g o → AreRows h new.members.items (member_widths (members_of p.program.mirror)) → HasObjects p.program h new
objects_made p g h o new eg el G O R = record { count = count; has = has }
  where
    count : (slot : Slot) → IsThere p.program slot → length (terms_of new slot) ≡ element_count (slot_length p.program slot)
    count (Global i) lt = ap (λ (l : List (List TermId)). length (slice_index_or l i [])) eg ∙ O.count (Global i) lt
    count (Local i) lt = ap (λ (l : List (List TermId)). length (slice_index_or l i [])) el ∙ O.count (Local i) lt
    count (Member i) w = member_count p h new.members.items R i w
    count BoundValue w = absurd w

    has : (slot : Slot) → IsThere p.program slot → (k : ℕ) (t : TermId) → slice_get (terms_of new slot) k ≡ Some t → Has h (sized t (slot_type p.program slot).bits)
    has (Global i) lt k t e = G.kept (sized t (slot_type p.program (Global i)).bits) (O.has (Global i) lt k t (ap (λ (l : List (List TermId)). slice_get (slice_index_or l i []) k) (sym eg) ∙ e))
    has (Local i) lt k t e = G.kept (sized t (slot_type p.program (Local i)).bits) (O.has (Local i) lt k t (ap (λ (l : List (List TermId)). slice_get (slice_index_or l i []) k) (sym el) ∙ e))
    has (Member i) w k t e = member_has p h new.members.items R i w k t e
    has BoundValue w k t e = absurd w

pub row_lengths : (g : Graph) (members : List AMember) (rows : List (List TermId)) → AreRows g rows (member_widths members) → map (λ (row : List TermId). length row) rows ≡ map member_elements members
row_lengths g [] [] a = refl
row_lengths g [] (row ∷ rows) a = absurd a
row_lengths g (m ∷ members) [] a = absurd a
row_lengths g (m ∷ members) (row ∷ rows) a =
    ap (λ n. n ∷ map (λ (row : List TermId). length row) rows) (terms_length g row (copies (member_elements m) (type_or_int m.ty).bits) a.0 ∙ copies_length (member_elements m) (type_or_int m.ty).bits)
    ∙ ap (λ l. member_elements m ∷ l) (row_lengths g members rows a.1)

-- the numbers of a member's row
numbers_at : (members : List AMember) (xs : List (List ℕ)) (i : ℕ) → length xs ≡ length members → numbers (member_type (slice_get members i)) (words_at xs i) ≡ row_at (member_numbers members xs) i
numbers_at [] [] i e = refl
numbers_at [] (x ∷ xs) i e = absurd (omega arith)
numbers_at (m ∷ members) [] i e = absurd (omega arith)
numbers_at (m ∷ members) (x ∷ xs) zero e = refl
numbers_at (m ∷ members) (x ∷ xs) (suc i) e = numbers_at members xs i (omega arith)

numbers_count : (members : List AMember) (xs : List (List ℕ)) → length xs ≡ length members → length (member_numbers members xs) ≡ length xs
numbers_count [] [] e = refl
numbers_count [] (x ∷ xs) e = absurd (omega arith)
numbers_count (m ∷ members) [] e = absurd (omega arith)
numbers_count (m ∷ members) (x ∷ xs) e = ap suc (numbers_count members xs (omega arith))

module _ (p : Pair) (g : Graph) (rows : List (List TermId)) (R : AreRows g rows (member_widths (members_of p.program.mirror))) (v : Values) (shown : List (List ℤ)) (xs : List (List ℕ)) (is : map (words v) rows ≡ xs) (stand : member_numbers (members_of p.program.mirror) xs ≡ shown) where
  as_many : length xs ≡ length (members_of p.program.mirror)
  as_many =
      sym (ap (λ (l : List (List ℕ)). length l) is) ∙ length-map rows (words v) ∙ rows_length g rows (member_widths (members_of p.program.mirror)) R
      ∙ length-map (members_of p.program.mirror) (λ (m : AMember). copies (member_elements m) (type_or_int m.ty).bits)

  -- rows stand for what the mirror shows
  pub shown_at : (i : ℕ) → numbers (slot_type p.program (Member i)) (words_at (map (words v) rows) i) ≡ row_at shown i
  shown_at i = ap (λ (l : List (List ℕ)). numbers (slot_type p.program (Member i)) (words_at l i)) is ∙ numbers_at (members_of p.program.mirror) xs i as_many ∙ ap (λ l. row_at l i) stand

  pub shown_count : length (map (words v) rows) ≡ length shown
  shown_count = ap (λ (l : List (List ℕ)). length l) is ∙ sym (numbers_count (members_of p.program.mirror) xs as_many) ∙ ap (λ (l : List (List ℤ)). length l) stand

-- images are equal where their words are
same_image : (G L : List (List ℕ)) (r : ℕ) (m m' : List (List ℕ)) (a a' b b' c c' d d' : List ℕ) (e e' : ℕ) → m ≡ m' → a ≡ a' → b ≡ b' → c ≡ c' → d ≡ d' → e ≡ e' → {X : Type 0} → (f : Image → X) →
    f (record { globals = G; locals = L; members = m; registers = a; inputs = b; unknown = c; wires = d; edges = e; result = r }) ≡ f (record { globals = G; locals = L; members = m'; registers = a'; inputs = b'; unknown = c'; wires = d'; edges = e'; result = r })
same_image G L r m m' a a' b b' c c' d d' e e' qm qa qb qc qd qe f =
    ap (λ y. f (record { globals = G; locals = L; members = y; registers = a; inputs = b; unknown = c; wires = d; edges = e; result = r })) qm
    ∙ ap (λ y. f (record { globals = G; locals = L; members = m'; registers = y; inputs = b; unknown = c; wires = d; edges = e; result = r })) qa
    ∙ ap (λ y. f (record { globals = G; locals = L; members = m'; registers = a'; inputs = y; unknown = c; wires = d; edges = e; result = r })) qb
    ∙ ap (λ y. f (record { globals = G; locals = L; members = m'; registers = a'; inputs = b'; unknown = y; wires = d; edges = e; result = r })) qc
    ∙ ap (λ y. f (record { globals = G; locals = L; members = m'; registers = a'; inputs = b'; unknown = c'; wires = y; edges = e; result = r })) qd
    ∙ ap (λ y. f (record { globals = G; locals = L; members = m'; registers = a'; inputs = b'; unknown = c'; wires = d'; edges = y; result = r })) qe

-- the state that is made of a view's parts
abbrev pub refreshed_state : State → Sources → (wires : List TermId) → Vec (List TermId) → State
refreshed_state s x wires members = record {
  objects = record { globals = s.objects.globals; locals = s.objects.locals; members = members };
  registers = x.registers;
  inputs = x.inputs;
  unknown = x.unknown;
  wires = wires;
  edges = x.edges;
  result = s.result;
}

module _ (p : Pair) (n0 n1 : Unrolled) (s : State) (x : Sources) (made : Shown) (O : HasObjects p.program n0.terms s.objects) (M : HasModule p n0.terms s) (S : IsShown p n0 n1 x made) where
  -- the mirror's rows may be chosen
  pub mirror_alike : AreAlikeRows n1.terms made.members.items s.objects.members.items
  mirror_alike =
      rows_alike n1.terms made.members.items s.objects.members.items (member_widths (members_of p.program.mirror)) S.members_
      (rows_kept n0.terms n1.terms s.objects.members.items (member_widths (members_of p.program.mirror)) (grows_adds n0 n1 S.adds) (state_rows p n0.terms s O M))

  module _ (X : HasSources p n0.terms x) (n2 : Unrolled) (g : Guard) (members : Vec (List TermId)) (C : AreChosenRows n1 n2 g made.members.items s.objects.members.items members.items) where
    rows_now : AreRows n2.terms members.items (member_widths (members_of p.program.mirror))
    rows_now = subst (AreRows n2.terms members.items) (widths_are n1.terms made.members.items (member_widths (members_of p.program.mirror)) S.members_) C.terms

    all : Grows n0.terms n2.terms
    all = grows_adds n0 n2 (adds_then n0 n1 n2 S.adds C.adds)

    pub refreshed : IsRefreshed p n0 n2 s (refreshed_state s x made.wires members) x g
    refreshed = record {
      adds = adds_then n0 n1 n2 S.adds C.adds;
      objects_ = objects_made p n0.terms n2.terms s.objects (record { globals = s.objects.globals; locals = s.objects.locals; members = members }) refl refl all O rows_now;
      module_ = record {
        sources = record {
          registers = terms_kept n0.terms n2.terms x.registers (widths_of Register p.module.signals) all X.registers_;
          inputs = terms_kept n0.terms n2.terms x.inputs (widths_of Input p.module.signals) all X.inputs_;
          unknown = terms_kept n0.terms n2.terms x.unknown (site_widths p.module.settle_sites) all X.unknown_;
          mirror = row_lengths n2.terms (members_of p.program.mirror) members.items rows_now;
        };
        wires = terms_kept n1.terms n2.terms made.wires (widths_of Wire p.module.signals) (grows_adds n1 n2 C.adds) S.wires_;
        edges = all.kept x.edges X.edges_;
        counter = X.counter;
      };
      result_ = refl;
      settled = λ v r. S.settled v (C.adds.grown v r);
      off = λ v r o same settled.
          same_image (map (words v) s.objects.globals.items) (map (words v) s.objects.locals.items) (bits v s.result) (map (words v) members.items) (map (words v) s.objects.members.items) (words v x.registers) (words v s.registers) (words v x.inputs) (words v s.inputs)
          (words v x.unknown) (words v s.unknown) (words v made.wires) (words v s.wires) (bits v x.edges) (bits v s.edges)
          (C.off v r o) same.registers_ same.inputs_ same.unknown_
          (S.settled v (C.adds.grown v r) ∙ ap (λ l. settled_wires p.module l (words v x.inputs) (words v x.unknown)) same.registers_ ∙ ap (λ l. settled_wires p.module (words v s.registers) l (words v x.unknown)) same.inputs_
          ∙ ap (settled_wires p.module (words v s.registers) (words v s.inputs)) same.unknown_ ∙ sym settled)
          same.edges_ (λ i. i);
      on = λ v r l visible q k.
          let r1 = C.adds.grown v r in
          record {
            globals = k.globals;
            locals = k.locals;
            members = shown_at p n2.terms members.items rows_now v (filled p (settled_from p v x)) (map (words v) made.members.items) (C.on v r l) (S.stand v r1);
            global_count = k.global_count;
            local_count = k.local_count;
            member_count = shown_count p n2.terms members.items rows_now v (filled p (settled_from p v x)) (map (words v) made.members.items) (C.on v r l) (S.stand v r1);
            local_lengths = k.local_lengths;
            registers = refl;
            inputs = refl;
            wires = S.settled v r1;
            edges = refl;
          };
    }
