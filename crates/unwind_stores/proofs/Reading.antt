-- Reads through an index.
use Rattle.std.proofs.Common.{◌≡◌, ℕ, suc, ◌-◌, ◌+◌, ◌*◌, ◌<◌, ◌^◌, Bool, true, false, List, length, take, get_or, Some, refl, sym, ap, ◌∙◌, subst, arith}
use Rattle.std.specs.Prelude.{ℤ, pos, negsuc, nat_lt, if◌then◌else◌, slice_get, slice_index_or}
use Rattle.std.proofs.lemmas.Bool.Decides.{nat_tests}
use Rattle.std.proofs.lemmas.List.{get_or-take, length-take}
use Rattle.std.proofs.lemmas.Option.{slice_get-get_or, slice_get_within, get_or_from_slice_get}
use Rattle.bits_core.specs.Word.{number}
use Rattle.word_eqs.specs.declared.term.TermId.{TermId}
use Rattle.word_eqs.specs.Graph.{IsGraph}
use Rattle.word_eqs.specs.Meaning.{Values, Respects}
use Rattle.joint_ir.specs.declared.expr.Slot.{Slot}
use Rattle.joint_ir.specs.declared.pair.Pair.{Pair}
use Rattle.joint_ir.specs.States.{JointState, rows_of}
use Rattle.joint_ir.specs.Steps.{slot_type, is_within}
use Rattle.sized_terms.specs.declared.SizedTerm.{SizedTerm}
use Rattle.sized_terms.specs.Sized.{Has, bits}
use Rattle.sized_terms.proofs.Made.{bits_below}
use Rattle.checked_terms.specs.Checked.{stands}
use Rattle.element_terms.specs.Elements.{IsRead}
use Rattle.unrolled.specs.declared.Unrolled.{Unrolled}
use Rattle.unrolled.specs.Elements.{terms_of}
use Rattle.unwind_state.specs.declared.state.State.{State}
use Rattle.unwind_state.specs.Images.{look, IsState}
use Rattle.unwind_state.specs.Writing.{IsDeclared}
use Rattle.unwind_state.proofs.Gates.{adds_built}
use Rattle.unwind_stores.specs.Elements.{IsReadAt}
use Rattle.unwind_stores.proofs.Rows.{element_found}

-- an element that is there is among those that an index can name
taken_at : (l : List TermId) (m i : ℕ) (x : TermId) → i < m → slice_get l i ≡ Some x → (i < length (take m l)) × (slice_get (take m l) i ≡ Some x)
taken_at l m i x lt e =
    let k : i < length l = slice_get_within l i x e in
    let j : i < length (take m l) = omega (arith, length-take m l) in
    (j, slice_get-get_or (take m l) i x j ∙ ap Some (get_or-take m l i x lt ∙ get_or_from_slice_get l i x x e))

pub read_made : (n0 n1 : Unrolled) (elements named : List TermId) (w : ℕ) (index t : SizedTerm) → IsGraph n0.terms → Has n0.terms index → n1.list ≡ n0.list → named ≡ take (2 ^ index.width) elements →
    IsRead n0.terms n1.terms index named w (length named) t → IsReadAt n0 n1 elements w index t
read_made n0 n1 elements named w index t proper has l is R = record {
  adds = adds_built n0 n1 _ (3 * length named) R.builds l;
  has = R.has;
  width = R.width;
  is = λ v r x e.
      let lt : bits v index < 2 ^ index.width = bits_below v n0.terms index proper (R.builds.grown v r) has in
      let q : (bits v index < length named) × (slice_get named (bits v index) ≡ Some x) =
      subst (λ (l : List TermId). (bits v index < length l) × (slice_get l (bits v index) ≡ Some x)) (sym is) (taken_at elements (2 ^ index.width) (bits v index) x lt e) in
      R.value v r (bits v index) q.0 refl x q.1;
}

-- an index that is within names an element
pub low_within : (s : Bool) (w n count : ℕ) → is_within count (number s w n) ≡ true → n < count
low_within false w n count h = grind (arith, nat_tests)
low_within true w n count h = by_half (nat_lt (n + n) (2 ^ w)) h
  where
    by_half : (b : Bool) → is_within count (if b then pos n else negsuc (2 ^ w - suc n)) ≡ true → n < count
    by_half true h = grind (arith, nat_tests)
    by_half false h = let d : false ≡ true = h in cc

-- what is read at an index that is within stands for the element in the run
pub read_found : (p : Pair) (visible : List ℕ) (frames : ℕ) (n0 n1 : Unrolled) (v : Values) (st : State) (s : JointState) (slot : Slot) (index t : SizedTerm) → IsDeclared visible slot → IsState p visible (look v st) s → Respects v n1.terms →
    IsReadAt n0 n1 (terms_of st.objects slot) (slot_type p.program slot).bits index t → bits v index < length (terms_of st.objects slot) →
    stands (slot_type p.program slot) v t ≡ slice_index_or (rows_of frames s.store slot) (bits v index) (pos 0)
read_found p visible frames n0 n1 v st s slot index t d h r R lt =
    let i = bits v index in
    let ty = slot_type p.program slot in
    let none : TermId = record { 0 = 0 } in
    let x = get_or (terms_of st.objects slot) i none in
    let at : slice_get (terms_of st.objects slot) i ≡ Some x = slice_get-get_or (terms_of st.objects slot) i none lt in
    ap (number ty.signed ty.bits) (R.is v r x at) ∙ element_found p visible frames v st s slot i x d h at
