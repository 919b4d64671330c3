-- A local that is declared: its elements take values one after another, and behind the last one it stands for its value.
use Rattle.std.proofs.Common.{◌≡◌, ℕ, zero, suc, ◌+◌, ◌<◌, ◌≤◌, List, [], ◌∷◌, length, map, ◌⊎◌, inl, inr, ⊎_elim, refl, sym, ap, ◌∙◌, subst, arith}
use Rattle.std.specs.Prelude.{ℤ, pos, slice_set, slice_index_or, Contains}
use Rattle.std.proofs.Math.ListN.{get_or-map as get_or-mapped}
use Rattle.std.proofs.lemmas.List.{map-set, get_or-set_same, get_or-set_other, ext_get_or, length-map}
use Rattle.std.proofs.lemmas.Map.Made.{Contains-tail}
use Rattle.bits_core.specs.Word.{number, at_zero}
use Rattle.word_eqs.specs.declared.term.TermId.{TermId}
use Rattle.word_eqs.specs.Meaning.{Values, Respects}
use Rattle.joint_ir.specs.declared.ctype.IntType.{IntType}
use Rattle.joint_ir.specs.declared.expr.Slot.TheVariants.{Local}
use Rattle.joint_ir.specs.declared.pair.Pair.{Pair}
use Rattle.joint_ir.specs.States.{JointState, row_at, put}
use Rattle.joint_ir.specs.Steps.{with_store, slot_type}
use Rattle.sized_terms.specs.declared.SizedTerm.{SizedTerm}
use Rattle.sized_terms.specs.Sized.{bits}
use Rattle.unrolled.specs.declared.Objects.{Objects}
use Rattle.unrolled.specs.declared.Unrolled.{Unrolled}
use Rattle.unrolled.specs.Elements.{terms_of}
use Rattle.unwind_state.specs.declared.state.Guard.{Guard}
use Rattle.unwind_state.specs.declared.state.State.{State}
use Rattle.unwind_state.specs.Guards.{bit_at}
use Rattle.unwind_state.specs.Images.{Image, words, words_at, look, numbers, IsState, IsSettled}
use Rattle.unwind_state.specs.Unwinding.{Changes}
use Rattle.unwind_state.specs.Writing.{IsPut, image_put, with_objects}
use Rattle.unwind_state.proofs.Puts.{same_or, look_set, put_changes, row_is_there}

-- the type of a local
abbrev pub local_type : Pair → ℕ → IntType
local_type p x = slot_type p.program (Local x)

-- the first k elements of a local have their values
pub record HasFirsts (p : Pair) (visible : List ℕ) (x k : ℕ) (im : Image) (s : JointState) : Type 0 where
  pub state : IsState p visible im s
  pub firsts : (j : ℕ) → j < k → slice_index_or (numbers (local_type p x) (words_at im.locals x)) j (pos 0) ≡ slice_index_or (row_at s.store.locals x) j (pos 0)

pub firsts_none : (p : Pair) (visible : List ℕ) (x : ℕ) (im : Image) (s : JointState) → IsState p visible im s → HasFirsts p visible x 0 im s
firsts_none p visible x im s h = record { state = h; firsts = λ j lt. absurd (omega arith) }

-- one more element of both
firsts_put : (t : IntType) (ws : List ℕ) (row : List ℤ) (k n : ℕ) → length ws ≡ length row → k < length ws → ((j : ℕ) → j < k → slice_index_or (numbers t ws) j (pos 0) ≡ slice_index_or row j (pos 0)) →
    (j : ℕ) → j < k + 1 → slice_index_or (numbers t (slice_set ws k n)) j (pos 0) ≡ slice_index_or (slice_set row k (number t.signed t.bits n)) j (pos 0)
firsts_put t ws row k n len lt h j below = ap (λ l. slice_index_or l j (pos 0)) (map-set (number t.signed t.bits) ws k n) ∙ ⊎_elim at_it other (same_or j k)
  where
    m : ℤ
    m = number t.signed t.bits n

    here : k < length row
    here = omega (arith, len)

    there : k < length (numbers t ws)
    there = let e : length (numbers t ws) ≡ length ws = length-map ws (number t.signed t.bits) in omega arith

    at_it : j ≡ k → slice_index_or (slice_set (numbers t ws) k (number t.signed t.bits n)) j (pos 0) ≡ slice_index_or (slice_set row k (number t.signed t.bits n)) j (pos 0)
    at_it e =
        subst (λ i. slice_index_or (slice_set (numbers t ws) k (number t.signed t.bits n)) i (pos 0) ≡ slice_index_or (slice_set row k (number t.signed t.bits n)) i (pos 0)) (sym e)
        (get_or-set_same (numbers t ws) k (number t.signed t.bits n) (pos 0) there ∙ sym (get_or-set_same row k (number t.signed t.bits n) (pos 0) here))

    other : (j ≡ k → ⊥) → slice_index_or (slice_set (numbers t ws) k (number t.signed t.bits n)) j (pos 0) ≡ slice_index_or (slice_set row k (number t.signed t.bits n)) j (pos 0)
    other isnt =
        let l : j < k = omega arith in
        get_or-set_other (numbers t ws) k j (number t.signed t.bits n) (pos 0) isnt ∙ h j l ∙ sym (get_or-set_other row k j (number t.signed t.bits n) (pos 0) isnt)

-- the words of a local
pub local_words : (v : Values) (s : State) (x : ℕ) → words_at (look v s).locals x ≡ words v (terms_of s.objects (Local x))
local_words v s x = get_or-mapped (words v) s.objects.locals.items x []

pub first_changes : (p : Pair) (visible : List ℕ) (x : ℕ) (n0 n1 : Unrolled) (s : State) (o : Objects) (k : ℕ) (value : SizedTerm) (g : Guard) → k < length (terms_of s.objects (Local x)) → IsPut n0 n1 s.objects o (Local x) k value g →
    Changes (IsSettled p) n0 n1 s (with_objects s o) g (HasFirsts p visible x k) (HasFirsts p visible x (k + 1)) (λ v q. with_store q (put q.store (Local x) k (number (local_type p x).signed (local_type p x).bits (bits v value))))
first_changes p visible x n0 n1 s o k value g lt P =
    let C = put_changes p visible n0 n1 s o (Local x) k value g lt P in
    record {
      grown = C.grown;
      list = C.list;
      settled = C.settled;
      kept = C.kept;
      changed = λ v r e im q h. record { state = C.changed v r e im q h.state; firsts = after v r e im q h };
    }
  where
    after : (v : Values) → Respects v n1.terms → bit_at v g ≡ 1 → IsSettled p (look v s) → (q : JointState) → HasFirsts p visible x k (look v s) q → (j : ℕ) → j < k + 1 →
        slice_index_or (numbers (local_type p x) (words_at (look v (with_objects s o)).locals x)) j (pos 0)
        ≡ slice_index_or (row_at (put q.store (Local x) k (number (local_type p x).signed (local_type p x).bits (bits v value))).locals x) j (pos 0)
    after v r e im q h j below =
        let ws : List ℕ = words_at (look v s).locals x in
        let lt_ws : k < length ws = subst (λ l. k < l) (sym (ap length (local_words v s x) ∙ length-map (terms_of s.objects (Local x)) (λ (u : TermId). (v.term u.0).value))) lt in
        let row : x < length (look v s).locals = row_is_there v s (Local x) k lt in
        let row' : x < length q.store.locals = subst (λ l. x < l) h.state.local_count row in
        let n_is : (v.term P.term.0).value ≡ bits v value = P.is v r ∙ ap (λ m. at_zero m (slice_index_or (words v (terms_of s.objects (Local x))) k 0) (bits v value)) e in
        let is : look v (with_objects s o) ≡ image_put (look v s) (Local x) k (bits v value) = look_set v s o (Local x) k P.term lt P.set ∙ ap (image_put (look v s) (Local x) k) n_is in
        ap (λ (y : Image). slice_index_or (numbers (local_type p x) (words_at y.locals x)) j (pos 0)) is
        ∙ ap (λ l. slice_index_or (numbers (local_type p x) l) j (pos 0)) (get_or-set_same (look v s).locals x (slice_set ws k (bits v value)) [] row)
        ∙ firsts_put (local_type p x) ws (row_at q.store.locals x) k (bits v value) (h.state.local_lengths x) lt_ws h.firsts j below
        ∙ sym (ap (λ l. slice_index_or l j (pos 0)) (get_or-set_same q.store.locals x (slice_set (row_at q.store.locals x) k (number (local_type p x).signed (local_type p x).bits (bits v value))) [] row'))

-- a local whose elements all have their values is declared
pub firsts_all : (p : Pair) (visible : List ℕ) (x k : ℕ) (im : Image) (s : JointState) → length (words_at im.locals x) ≡ k → HasFirsts p visible x k im s → IsState p (x ∷ visible) im s
firsts_all p visible x k im s len h = record {
  globals = h.state.globals;
  locals = λ j q. ⊎_elim (λ e. at_it j e) (λ isnt. h.state.locals j (Contains-tail x visible j (λ e. isnt (sym e)) q)) (same_or j x);
  members = h.state.members;
  global_count = h.state.global_count;
  local_count = h.state.local_count;
  member_count = h.state.member_count;
  local_lengths = h.state.local_lengths;
  registers = h.state.registers;
  inputs = h.state.inputs;
  wires = h.state.wires;
  edges = h.state.edges;
}
  where
    whole : numbers (local_type p x) (words_at im.locals x) ≡ row_at s.store.locals x
    whole =
        let n : length (numbers (local_type p x) (words_at im.locals x)) ≡ length (words_at im.locals x) = length-map (words_at im.locals x) (number (local_type p x).signed (local_type p x).bits) in
        ext_get_or (pos 0) (numbers (local_type p x) (words_at im.locals x)) (row_at s.store.locals x) (n ∙ h.state.local_lengths x)
        (λ j lt. h.firsts j (let d : j < length (words_at im.locals x) = omega arith in omega arith))

    at_it : (j : ℕ) → j ≡ x → numbers (slot_type p.program (Local j)) (words_at im.locals j) ≡ row_at s.store.locals j
    at_it j e = subst (λ i. numbers (slot_type p.program (Local i)) (words_at im.locals i) ≡ row_at s.store.locals i) (sym e) whole
