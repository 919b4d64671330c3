-- Bits of labels.
use Rattle.std.proofs.Common.{◌≡◌, ℕ, zero, suc, ◌+◌, ◌<◌, ◌≤◌, ◌^◌, Bool, true, false, List, [], ◌∷◌, ◌++◌, length, take, refl, sym, ap, ◌∙◌, subst, arith}
use Rattle.std.proofs.lemmas.List.{take_more}
use Rattle.std.specs.Prelude.{ℤ, slice_index_or, nat_eq, bit_or, bit_and, not, ◌||◌, ◌&&◌}
use Rattle.std.specs.List.{list_any}
use Rattle.std.proofs.lemmas.List.Folds.{list_any-append}
use Rattle.std.specs.Ordering.{int_eq}
use Rattle.std.specs.Int.Bits.{or_zero_l, or_zero_r}
use Rattle.bits_core.specs.declared.op.Op2.TheVariants.{Eq, Or}
use Rattle.bits_core.specs.Ops.{value2, width2}
use Rattle.bits_core.specs.Word.{bit, number}
use Rattle.word_eqs.specs.Graph.{IsGraph}
use Rattle.word_eqs.specs.Meaning.{Values, Respects}
use Rattle.joint_ir.specs.declared.ctype.IntType.{IntType}
use Rattle.joint_ir.specs.declared.stmt.Label.{Label}
use Rattle.joint_ir.specs.declared.stmt.Label.TheVariants.{Case, Default}
use Rattle.joint_ir.specs.Statements.{is_case}
use Rattle.joint_ir.specs.Values.{Value}
use Rattle.sized_terms.specs.declared.SizedTerm.{SizedTerm}
use Rattle.sized_terms.specs.Sized.{Has, IsMade, bits}
use Rattle.sized_terms.proofs.Made.{bits_below}
use Rattle.checked_terms.specs.Checked.{IsChecked, plain}
use Rattle.c_operator_terms.proofs.Operations.{eq_is}
use Rattle.unrolled.specs.declared.Unrolled.{Unrolled}
use Rattle.unwind_state.specs.Guards.{Adds}
use Rattle.unwind_state.proofs.Gates.{adds_none, adds_then, adds_built}
use Rattle.switch_guards.specs.Entries.{number_of, IsBit, IsEither, IsOrLabel}

same_value : (m n : ℤ) → Value m ≡ Value n → m ≡ n
same_value m n e = cc

-- another bit, or that a value is a number
pub either_made : (n0 n1 n2 n3 : Unrolled) (ty : IntType) (value any label same t : SizedTerm) (n : ℤ) (g1 g2 g3 : ℕ) → IsChecked n0.terms n1.terms ty g1 1 (plain label) (λ v. Value n) → n1.list ≡ n0.list → IsMade n1.terms n2.terms 1 g2 1 same (λ v. value2 Eq label.width (bits v label) (bits v value)) → n2.list ≡ n1.list →
    IsMade n2.terms n3.terms any.width g3 1 t (λ v. value2 Or any.width (bits v any) (bits v same)) → n3.list ≡ n2.list → Has n0.terms value → value.width ≡ ty.bits → any.width ≡ 1 → IsEither n0 n3 ty value any n t
either_made n0 n1 n2 n3 ty value any label same t n g1 g2 g3 L l1 S l2 T l3 has width one = record {
  adds = adds_then n0 n1 n3 (adds_built n0 n1 L.made 1 L.builds l1) (adds_then n1 n2 n3 (adds_built n1 n2 g2 1 S.builds l2) (adds_built n2 n3 g3 1 T.builds l3));
  has = T.has;
  width = T.width ∙ one;
  value = λ v r.
      let r2 = T.builds.grown v r in
      let r1 = S.builds.grown v r2 in
      let few_value : bits v value < 2 ^ ty.bits = subst (λ w. bits v value < 2 ^ w) width (bits_below v n1.terms value L.builds.proper r1 (L.builds.kept value has)) in
      let few_label : bits v label < 2 ^ ty.bits = subst (λ w. bits v label < 2 ^ w) L.width (bits_below v n1.terms label L.builds.proper r1 L.has) in
      let is : number ty.signed ty.bits (bits v label) ≡ n = same_value _ _ (L.gives v r1) in
      T.value v r ∙ ap (bit_or (bits v any)) (S.value v r2 ∙ ap bit (eq_is ty.signed ty.bits (bits v label) (bits v value) few_label few_value ∙ ap (λ m. int_eq m (number_of ty v value)) is));
}

or_bits : (a b : Bool) → bit_or (bit a) (bit b) ≡ bit (a || b)
or_bits false false = refl
or_bits false true = refl
or_bits true false = refl
or_bits true true = refl

or_false : (a : Bool) → (a || false) ≡ a
or_false true = refl
or_false false = refl

-- no label so far
pub bit_first : (n0 n1 : Unrolled) (t : SizedTerm) (labels : List Label) (test : Values → Label → Bool) → IsBit n0 n1 t (λ v. false) → IsBit n0 n1 t (λ v. list_any (test v) (take 0 labels))
bit_first n0 n1 t [] test B = B
bit_first n0 n1 t (x ∷ labels) test B = B

-- one label more
pub bit_next : (n0 n1 n2 : Unrolled) (ty : IntType) (value any t : SizedTerm) (x : Label) (l m : List Label) → m ≡ l ++ x ∷ [] → IsBit n0 n1 any (λ v. list_any (is_case (number_of ty v value)) l) → IsOrLabel n1 n2 ty value any x t → IsBit n0 n2 t (λ v. list_any (is_case (number_of ty v value)) m)
bit_next n0 n1 n2 ty value any t x l m is A B = record {
  adds = adds_then n0 n1 n2 A.adds B.adds;
  has = B.has;
  width = B.width;
  value = λ v r.
      let p : Label → Bool = is_case (number_of ty v value) in
      B.value v r ∙ ap (λ n. bit_or n (bit (p x))) (A.value v (B.adds.grown v r)) ∙ or_bits (list_any p l) (p x)
      ∙ ap (λ b. bit (list_any p l || b)) (sym (or_false (p x))) ∙ ap bit (sym (list_any-append p l (x ∷ []))) ∙ ap (λ (k : List Label). bit (list_any p k)) (sym is);
}

pub bit_more : (n0 n1 n2 : Unrolled) (ty : IntType) (value any t : SizedTerm) (labels : List Label) (i : ℕ) (d : Label) → i < length labels → IsBit n0 n1 any (λ v. list_any (is_case (number_of ty v value)) (take i labels)) → IsOrLabel n1 n2 ty value any (slice_index_or labels i d) t →
    IsBit n0 n2 t (λ v. list_any (is_case (number_of ty v value)) (take (i + 1) labels))
bit_more n0 n1 n2 ty value any t labels i d few A B = bit_next n0 n1 n2 ty value any t (slice_index_or labels i d) (take i labels) (take (i + 1) labels) (take_more labels i d few) A B

pub taken_all : {X : Type 0} (xs : List X) (i : ℕ) → length xs ≤ i → take i xs ≡ xs
taken_all [] zero h = refl
taken_all [] (suc i) h = refl
taken_all (x ∷ xs) zero h = absurd (omega arith)
taken_all (x ∷ xs) (suc i) h = ap (λ l. x ∷ l) (taken_all xs i (omega arith))

-- all labels
pub bit_last : (n0 n1 : Unrolled) (t : SizedTerm) (labels : List Label) (i : ℕ) (test : Values → Label → Bool) → length labels ≤ i → IsBit n0 n1 t (λ v. list_any (test v) (take i labels)) → IsBit n0 n1 t (λ v. list_any (test v) labels)
bit_last n0 n1 t labels i test over B = subst (λ (l : List Label). IsBit n0 n1 t (λ v. list_any (test v) l)) (taken_all labels i over) B

-- `default` is no number
pub label_none : (n : Unrolled) (ty : IntType) (value any : SizedTerm) (label : Label) → label ≡ Default → IsGraph n.terms → Has n.terms any → any.width ≡ 1 → IsOrLabel n n ty value any label any
label_none n ty value any label is proper has one = record {
  adds = adds_none n proper;
  has = has;
  width = one;
  value = λ v r. sym (ap (λ (x : Label). bit_or (bits v any) (bit (is_case (number_of ty v value) x))) is ∙ or_zero_r (bits v any));
}

pub label_some : (n0 n1 : Unrolled) (ty : IntType) (value any t : SizedTerm) (label : Label) (n : ℤ) → label ≡ Case n → IsEither n0 n1 ty value any n t → IsOrLabel n0 n1 ty value any label t
label_some n0 n1 ty value any t label n is E = record {
  adds = E.adds;
  has = E.has;
  width = E.width;
  value = λ v r. E.value v r ∙ ap (λ (x : Label). bit_or (bits v any) (bit (is_case (number_of ty v value) x))) (sym is);
}
