-- The terms of objects, and the numbers of a run's state that they stand for.
use Rattle.std.proofs.Common.{◌≡◌, ℕ, zero, suc, ◌<◌, List, [], ◌∷◌, map, length, Some, None, sym, ap, ◌∙◌, subst, arith}
use Rattle.std.specs.Prelude.{ℤ, pos, slice_get, slice_index_or}
use Rattle.std.proofs.Math.ListN.{get_or-map}
use Rattle.std.proofs.lemmas.Simd.{map-map}
use Rattle.bits_core.specs.Word.{number}
use Rattle.word_eqs.specs.declared.term.TermId.{TermId}
use Rattle.word_eqs.specs.Graph.{Graph}
use Rattle.word_eqs.specs.Meaning.{Values}
use Rattle.joint_ir.specs.declared.ctype.IntType.{IntType}
use Rattle.joint_ir.specs.declared.expr.Slot.{Slot}
use Rattle.joint_ir.specs.declared.expr.Slot.TheVariants.{Global, Local, Member, BoundValue}
use Rattle.joint_ir.specs.declared.pair.Pair.{Pair}
use Rattle.joint_ir.specs.declared.program.CProgram.{CProgram}
use Rattle.joint_ir.specs.States.{JointState, element_count, row_at, rows_of}
use Rattle.joint_ir.specs.Steps.{slot_type}
use Rattle.joint_ir.specs.Weights.{slot_length}
use Rattle.joint_ir.specs.WellFormed.{Scope, IsVisible}
use Rattle.sized_terms.specs.declared.SizedTerm.{SizedTerm}
use Rattle.sized_terms.specs.Sized.{Has}
use Rattle.unrolled.specs.declared.Objects.{Objects}
use Rattle.unrolled.specs.Elements.{terms_of}
use Rattle.unwind_state.specs.declared.state.State.{State}
use Rattle.unwind_state.specs.Images.{words, words_at, look, numbers, IsState}
use Rattle.unwind_state.specs.Writing.{HasObjects, IsThere, IsDeclared, sized}

found : (f : TermId → ℤ) (xs : List TermId) (j : ℕ) (t : TermId) → slice_get xs j ≡ Some t → slice_index_or (map f xs) j (pos 0) ≡ f t
found f [] zero t e = let d : None ≡ Some t = e in cc
found f [] (suc j) t e = let d : None ≡ Some t = e in cc
found f (x ∷ xs) zero t e = let d : Some x ≡ Some t = e in let same : x ≡ t = cc in ap f same
found f (x ∷ xs) (suc j) t e = found f xs j t e

row_found : (ty : IntType) (v : Values) (rows : List (List TermId)) (i j : ℕ) (t : TermId) (row : List ℤ) → slice_get (slice_index_or rows i []) j ≡ Some t → numbers ty (words_at (map (words v) rows) i) ≡ row →
    number ty.signed ty.bits (v.term t.0).value ≡ slice_index_or row j (pos 0)
row_found ty v rows i j t row at e =
    sym (found (λ (x : TermId). number ty.signed ty.bits (v.term x.0).value) (slice_index_or rows i []) j t at)
    ∙ ap (λ l. slice_index_or l j (pos 0))
    (sym (map-map (number ty.signed ty.bits) (λ (x : TermId). (v.term x.0).value) (slice_index_or rows i [])) ∙ ap (numbers ty) (sym (get_or-map (words v) rows i [])) ∙ e)

-- the term of an element stands for the element
pub element_found : (p : Pair) (visible : List ℕ) (frames : ℕ) (v : Values) (st : State) (s : JointState) (slot : Slot) (j : ℕ) (t : TermId) → IsDeclared visible slot → IsState p visible (look v st) s →
    slice_get (terms_of st.objects slot) j ≡ Some t → number (slot_type p.program slot).signed (slot_type p.program slot).bits (v.term t.0).value ≡ slice_index_or (rows_of frames s.store slot) j (pos 0)
element_found p visible frames v st s (Global i) j t d h at = row_found (slot_type p.program (Global i)) v st.objects.globals.items i j t (row_at s.store.globals i) at (h.globals i)
element_found p visible frames v st s (Local i) j t d h at = row_found (slot_type p.program (Local i)) v st.objects.locals.items i j t (row_at s.store.locals i) at (h.locals i d)
element_found p visible frames v st s (Member i) j t d h at = row_found (slot_type p.program (Member i)) v st.objects.members.items i j t (row_at s.store.members i) at (h.members i)
element_found p visible frames v st s BoundValue j t d h at = cc

pub declared_in : (c : Scope) (slot : Slot) → IsVisible c slot → IsDeclared c.locals slot
declared_in c (Global i) vis = tt
declared_in c (Local i) vis = vis.1
declared_in c (Member i) vis = tt
declared_in c BoundValue vis = tt

-- the elements that a write looks at are there
pub old_has : (p : CProgram) (g h : Graph) (o : Objects) (slot : Slot) (j w : ℕ) → IsThere p slot → w ≡ (slot_type p slot).bits → ((x : SizedTerm) → Has g x → Has h x) → HasObjects p g o → (t : TermId) → slice_get (terms_of o slot) j ≡ Some t → Has h (sized t w)
old_has p g h o slot j w there e kept H t at = subst (λ m. Has h (sized t m)) (sym e) (kept (sized t (slot_type p slot).bits) (H.has slot there j t at))

some_count : (n : ℕ) → 0 < element_count n
some_count zero = omega arith
some_count (suc n) = omega arith

-- an object has a term
pub some_terms : (p : CProgram) (g : Graph) (o : Objects) (slot : Slot) → HasObjects p g o → IsThere p slot → 0 < length (terms_of o slot)
some_terms p g o slot h there = subst (λ n. 0 < n) (sym (h.count slot there)) (some_count (slot_length p slot))
