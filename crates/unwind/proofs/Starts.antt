-- The state in which a run begins.
use Rattle.std.proofs.Common.{◌≡◌, ℕ, zero, suc, ◌%◌, ◌<◌, ◌≤◌, ◌^◌, List, [], ◌∷◌, ◌++◌, length, map, refl, sym, ap, ◌∙◌, subst, arith}
use Rattle.std.specs.Prelude.{ℤ, pos, slice_index_or, slice_get, Option, Some, None, IfSome}
use Rattle.std.proofs.lemmas.List.{length-map}
use Rattle.bits_core.specs.Word.{number}
use Rattle.word_eqs.specs.declared.term.TermId.{TermId}
use Rattle.word_eqs.specs.Graph.{Graph, width_in}
use Rattle.word_eqs.specs.Meaning.{Values, Respects}
use Rattle.joint_ir.specs.declared.ctype.IntType.{IntType}
use Rattle.joint_ir.specs.declared.expr.Slot.{Slot}
use Rattle.joint_ir.specs.declared.expr.Slot.TheVariants.{Global, Local, Member, BoundValue}
use Rattle.joint_ir.specs.declared.module.Role.{Role}
use Rattle.joint_ir.specs.declared.module.Role.TheVariants.{Input, Register, Wire}
use Rattle.joint_ir.specs.declared.pair.Pair.{Pair}
use Rattle.joint_ir.specs.declared.program.Function.{Function}
use Rattle.joint_ir.specs.declared.program.Var.{Var}
use Rattle.joint_ir.specs.Effects.{Effect, Onward, draw_all}
use Rattle.joint_ir.specs.Runs.{draw_registers, with_first_state}
use Rattle.joint_ir.specs.States.{JointState, View, copies, element_count, first_rows, row_at}
use Rattle.joint_ir.specs.Steps.{type_or_int, result_of, slot_type, var_type, settled_view}
use Rattle.joint_ir.specs.Types.{IsType, Truth, Byte, Half, Single, Double}
use Rattle.joint_ir.specs.Views.{widths_of, site_widths, filled, members_of}
use Rattle.joint_ir.specs.Weights.{slot_length, var_length}
use Rattle.joint_ir.specs.WellFormed.{AreTerms, IsWellFormed}
use Rattle.sized_terms.specs.declared.SizedTerm.{SizedTerm}
use Rattle.sized_terms.specs.Sized.{Has, IsMade, bits}
use Rattle.unrolled.specs.declared.Objects.{Objects}
use Rattle.unrolled.specs.declared.Unrolled.{Unrolled}
use Rattle.unrolled.specs.Elements.{terms_of}
use Rattle.trails.specs.Trails.{trail}
use Rattle.unwind_state.specs.declared.state.State.{State}
use Rattle.unwind_state.specs.Guards.{Adds}
use Rattle.unwind_state.specs.Unwinding.{Grows}
use Rattle.unwind_state.specs.Images.{look, words, words_at, numbers, IsState}
use Rattle.unwind_state.specs.Writing.{HasObjects, IsThere, sized}
use Rattle.unwind_state.proofs.Gates.{adds_built, adds_then}
use Rattle.unwind_module.specs.Starting.{Begins}
use Rattle.unwind_module.specs.Words.{HasModule}
use Rattle.unwind_module.proofs.Terms.{grows_adds, grows_then, terms_kept, terms_head, terms_tail, terms_length}
use Rattle.unwind_words.specs.Rows.{AreRows as TermRows, member_widths}
use Rattle.unwind_words.proofs.Rows.{rows_kept as term_rows_kept}
use Rattle.unwind_frames.specs.declared.beginning.FirstView.{FirstView}
use Rattle.unwind_frames.specs.Firsts.{AreFirstSources, IsFirstView}
use Rattle.unwind_frames.specs.Frames.{settled_from}
use Rattle.unwind_frames.proofs.Firstly.{three_more, three_reads, three_list, three_through, three_draws}
use Rattle.unwind_frames.proofs.Refreshing.{member_count, member_has, row_lengths, shown_at, shown_count}
use Rattle.unwind.specs.Rows.{IsRow, AreRows, HasRows}
use Rattle.unwind.specs.Whole.{HasFirstObjects}
use Rattle.unwind.proofs.Parts.{rows_kept, rows_grown}

-- the width of a type is one of a word
type_width : (t : IntType) → IsType t → (0 < t.bits) × (t.bits ≤ 128)
type_width _ Truth = (omega arith, omega arith)
type_width _ (Byte s) = (omega arith, omega arith)
type_width _ (Half s) = (omega arith, omega arith)
type_width _ (Single s) = (omega arith, omega arith)
type_width _ (Double s) = (omega arith, omega arith)

pub result_type : (p : Pair) (fn : Function) (t : IntType) → IsWellFormed p → slice_get p.program.functions p.program.main ≡ Some fn → fn.result ≡ Some t → (0 < t.bits) × (t.bits ≤ 128)
result_type p fn t h at is = type_width t (subst (λ (o : Option IntType). IfSome o IsType) is (h.program.functions p.program.main fn at).result)

-- rows at a place

row_at_is : (g : Graph) (vars : List Var) (rows : List (List TermId)) (i : ℕ) → AreRows g vars rows → i < length vars → (x : Var) × (slice_get vars i ≡ Some x) × IsRow g x (slice_index_or rows i [])
row_at_is g [] rows i a lt = absurd (omega arith)
row_at_is g (x ∷ vars) [] i a lt = absurd a
row_at_is g (x ∷ vars) (row ∷ rows) zero a lt = (x, refl, a.0)
row_at_is g (x ∷ vars) (row ∷ rows) (suc i) a lt = row_at_is g vars rows i a.1 (omega arith)

copies_length : (n w : ℕ) → length (copies n w) ≡ n
copies_length zero w = refl
copies_length (suc n) w = ap suc (copies_length n w)

row_length : (g : Graph) (x : Var) (ids : List TermId) → IsRow g x ids → length ids ≡ element_count x.length
row_length g x ids h = terms_length g ids (copies (element_count x.length) x.ty.bits) h.terms ∙ copies_length (element_count x.length) x.ty.bits

term_has : (g : Graph) (n w : ℕ) (ids : List TermId) (k : ℕ) (t : TermId) → AreTerms g ids (copies n w) → slice_get ids k ≡ Some t → Has g (sized t w)
term_has g n w [] k t a e = let d : None ≡ Some t = e in cc
term_has g zero w (u ∷ ids) k t a e = let q : width_in g u.0 ∷ map (λ (y : TermId). width_in g y.0) ids ≡ [] = a.sized in cc
term_has g (suc n) w (u ∷ ids) zero t a e = let d : Some u ≡ Some t = e in let s : u ≡ t = cc in subst (λ y. Has g (sized y w)) s (terms_head g u ids w (copies n w) a)
term_has g (suc n) w (u ∷ ids) (suc k) t a e = term_has g n w ids k t (terms_tail g u ids w (copies n w) a) e

-- rows of objects stand for their first elements
rows_stand : (g : Graph) (v : Values) (vars : List Var) (rows : List (List TermId)) (i : ℕ) → Respects v g → AreRows g vars rows → numbers (var_type (slice_get vars i)) (words_at (map (words v) rows) i) ≡ row_at (first_rows vars) i
rows_stand g v [] [] i r a = refl
rows_stand g v [] (row ∷ rows) i r a = absurd a
rows_stand g v (x ∷ vars) [] i r a = absurd a
rows_stand g v (x ∷ vars) (row ∷ rows) zero r a = a.0.stand v r
rows_stand g v (x ∷ vars) (row ∷ rows) (suc i) r a = rows_stand g v vars rows i r a.1

rows_count : (g : Graph) (v : Values) (vars : List Var) (rows : List (List TermId)) → AreRows g vars rows → length (map (words v) rows) ≡ length (first_rows vars)
rows_count g v [] [] a = refl
rows_count g v [] (row ∷ rows) a = absurd a
rows_count g v (x ∷ vars) [] a = absurd a
rows_count g v (x ∷ vars) (row ∷ rows) a = ap suc (rows_count g v vars rows a.1)

pub first_has : (p : Pair) (n : Unrolled) (o : Objects) → TermRows n.terms o.members.items (member_widths (members_of p.program.mirror)) → AreRows n.terms p.program.globals o.globals.items → AreRows n.terms p.program.locals o.locals.items → HasObjects p.program n.terms o
first_has p n o mirror globals locals = record { count = count; has = has }
  where
    count : (slot : Slot) → IsThere p.program slot → length (terms_of o slot) ≡ element_count (slot_length p.program slot)
    count (Global i) lt =
        let a = row_at_is n.terms p.program.globals o.globals.items i globals lt in
        row_length n.terms a.0 (slice_index_or o.globals.items i []) a.2 ∙ ap (λ (y : Option Var). element_count (var_length y)) (sym a.1)
    count (Local i) lt =
        let a = row_at_is n.terms p.program.locals o.locals.items i locals lt in
        row_length n.terms a.0 (slice_index_or o.locals.items i []) a.2 ∙ ap (λ (y : Option Var). element_count (var_length y)) (sym a.1)
    count (Member i) h = member_count p n.terms o.members.items mirror i h
    count BoundValue h = absurd h

    has : (slot : Slot) → IsThere p.program slot → (k : ℕ) (t : TermId) → slice_get (terms_of o slot) k ≡ Some t → Has n.terms (sized t (slot_type p.program slot).bits)
    has (Global i) lt k t e =
        let a = row_at_is n.terms p.program.globals o.globals.items i globals lt in
        subst (λ (y : Option Var). Has n.terms (sized t (var_type y).bits)) (sym a.1) (term_has n.terms (element_count a.0.length) a.0.ty.bits (slice_index_or o.globals.items i []) k t a.2.terms e)
    has (Local i) lt k t e =
        let a = row_at_is n.terms p.program.locals o.locals.items i locals lt in
        subst (λ (y : Option Var). Has n.terms (sized t (var_type y).bits)) (sym a.1) (term_has n.terms (element_count a.0.length) a.0.ty.bits (slice_index_or o.locals.items i []) k t a.2.terms e)
    has (Member i) h k t e = member_has p n.terms o.members.items mirror i h k t e
    has BoundValue h k t e = absurd h

-- the state in which a run begins, given its first view
first_state : Pair → View → JointState
first_state p v = record {
  store = record { globals = first_rows p.program.globals; locals = first_rows p.program.locals; members = filled p v };
  view = v;
  edges = 0;
  returned = pos 0;
}

-- the state of the unwinding there
abbrev pub first_terms : Objects → FirstView → SizedTerm → State
first_terms o made result = record {
  objects = record { globals = o.globals; locals = o.locals; members = made.filled.members };
  registers = made.sources.registers;
  inputs = made.sources.inputs;
  unknown = made.sources.unknown;
  wires = made.filled.wires;
  edges = made.sources.edges;
  result = result;
}

module _ (p : Pair) (n0 n1 n3 n4 : Unrolled) (o : Objects) (made : FirstView) (result : SizedTerm) (w : ℕ) (none : n0.list ≡ []) (O : HasFirstObjects p n0 n1 o) (F : IsFirstView p n1 n3 made) (R : IsMade n3.terms n4.terms w 0 1 result (λ v. 0 % 2 ^ w)) (lr : n4.list ≡ n3.list)
    (is : w ≡ (type_or_int (result_of (slice_get p.program.functions p.program.main))).bits) where
  abbrev D : AreFirstSources p n1 F.n1 made.sources
  D = F.drawn

  abbrev L34 : Adds n3 n4
  L34 = adds_built n3 n4 0 1 R.builds lr

  abbrev L24 : Adds F.n1 n4
  L24 = adds_then F.n1 n3 n4 F.filled_.adds L34

  abbrev L : Adds D.n3 n4
  L = adds_then D.n3 F.n1 n4 D.edges_.adds L24

  G : Grows n1.terms n4.terms
  G = grows_then n1.terms D.n1.terms n4.terms D.registers_.grows (grows_then D.n1.terms D.n2.terms n4.terms D.inputs_.grows (grows_then D.n2.terms D.n3.terms n4.terms D.unknown_.grows (grows_adds D.n3 n4 L)))

  globals : AreRows n4.terms p.program.globals o.globals.items
  globals = rows_grown n1 n4 p.program.globals o.globals.items G O.globals

  locals : AreRows n4.terms p.program.locals o.locals.items
  locals = rows_grown n1 n4 p.program.locals o.locals.items G O.locals

  first_module : HasModule p n4.terms (first_terms o made result)
  first_module =
      let g = grows_adds F.n1 n4 L24 in
      let X = D.typed in
      record {
        sources = record {
          registers = terms_kept F.n1.terms n4.terms made.sources.registers (widths_of Register p.module.signals) g X.registers_;
          inputs = terms_kept F.n1.terms n4.terms made.sources.inputs (widths_of Input p.module.signals) g X.inputs_;
          unknown = terms_kept F.n1.terms n4.terms made.sources.unknown (site_widths p.module.settle_sites) g X.unknown_;
          mirror = row_lengths n3.terms (members_of p.program.mirror) made.filled.members.items F.filled_.members_;
        };
        wires = terms_kept n3.terms n4.terms made.filled.wires (widths_of Wire p.module.signals) (grows_adds n3 n4 L34) F.filled_.wires_;
        edges = g.kept made.sources.edges X.edges_;
        counter = X.counter;
      }

  view_at : Values → View
  view_at v = settled_from p v made.sources

  first_stands : (v : Values) → Respects v n4.terms → IsState p [] (look v (first_terms o made result)) (first_state p (view_at v))
  unfolding first_state view_at
  first_stands v r =
      let r3 = L34.grown v r in
      let rows = made.filled.members.items in
      let S = F.filled_ in
      record {
        globals = λ i. rows_stand n4.terms v p.program.globals o.globals.items i r globals;
        locals = λ i c. absurd (omega (arith, c.1));
        members = shown_at p n3.terms rows S.members_ v (filled p (view_at v)) (map (words v) rows) refl (S.stand v r3);
        global_count = rows_count n4.terms v p.program.globals o.globals.items globals;
        local_count = rows_count n4.terms v p.program.locals o.locals.items locals;
        member_count = shown_count p n3.terms rows S.members_ v (filled p (view_at v)) (map (words v) rows) refl (S.stand v r3);
        local_lengths = λ i.
            sym (length-map (words_at (map (words v) o.locals.items) i) (number (slot_type p.program (Local i)).signed (slot_type p.program (Local i)).bits))
            ∙ ap (λ (l : List ℤ). length l) (rows_stand n4.terms v p.program.locals o.locals.items i r locals);
        registers = refl;
        inputs = refl;
        wires = S.settled v r3;
        edges = D.edges_.value v (L24.grown v r);
      }

  pub begins : Begins p n4 (first_terms o made result)
  unfolding first_state view_at
  begins =
      let x = made.sources in
      let dA = draw_registers p.module.firsts (widths_of Register p.module.signals) in
      let dB = draw_all (widths_of Input p.module.signals) in
      let dC = draw_all (site_widths p.module.settle_sites) in
      let wa = widths_of Register p.module.signals in
      let wb = widths_of Input p.module.signals in
      let wc = site_widths p.module.settle_sites in
      let A = D.registers_ in
      let B = D.inputs_ in
      let C = D.unknown_ in
      let whole : n4.list ≡ three_more n1 D.n1 D.n2 D.n3 dA dB dC wa wb wc x.registers x.inputs x.unknown A B C =
      L.list ∙ three_list n1 D.n1 D.n2 D.n3 dA dB dC wa wb wc x.registers x.inputs x.unknown A B C ∙ ap (λ l. l ++ three_more n1 D.n1 D.n2 D.n3 dA dB dC wa wb wc x.registers x.inputs x.unknown A B C) (O.adds.list ∙ none) in
      record {
        proper = R.builds.proper;
        objects = first_has p n4 (record { globals = o.globals; locals = o.locals; members = made.filled.members })
            (term_rows_kept n3.terms n4.terms made.filled.members.items (member_widths (members_of p.program.mirror)) (grows_adds n3 n4 L34) F.filled_.members_) globals locals;
        module_ = first_module;
        result = R.has;
        wide = R.width ∙ is;
        settled = λ v r. F.filled_.settled v (L34.grown v r);
        reads = three_reads n1 D.n1 D.n2 D.n3 dA dB dC wa wb wc x.registers x.inputs x.unknown A B C;
        through = λ v r. ap (trail v) whole ∙ three_through n1 D.n1 D.n2 D.n3 dA dB dC wa wb wc x.registers x.inputs x.unknown A B C v (L.grown v r);
        first = λ v. first_state p (view_at v);
        stands = first_stands;
        runs = λ v r rest go.
            three_draws n1 D.n1 D.n2 D.n3 dA dB dC wa wb wc x.registers x.inputs x.unknown A B C v (L.grown v r) rest (λ registers inputs unknown c. go (first_state p (settled_view p.module registers inputs unknown)) c);
      }

pub first_made : (p : Pair) (n0 n1 n2 : Unrolled) (gs ls : List Var) (o : Objects) → gs ≡ p.program.globals → ls ≡ p.program.locals → HasRows n0 n1 gs o.globals.items → HasRows n1 n2 ls o.locals.items → o.members.items ≡ [] → HasFirstObjects p n0 n2 o
first_made p n0 n1 n2 gs ls o eg el G L none = record {
  adds = adds_then n0 n1 n2 G.adds L.adds;
  globals = rows_kept n1 n2 p.program.globals o.globals.items L.adds (subst (λ l. AreRows n1.terms l o.globals.items) eg G.all);
  locals = subst (λ l. AreRows n2.terms l o.locals.items) el L.all;
  members = none;
}
