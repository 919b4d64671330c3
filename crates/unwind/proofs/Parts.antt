-- Rows of terms, one element and one object more.
use Rattle.std.proofs.Common.{◌≡◌, ℕ, zero, suc, ◌+◌, ◌<◌, List, [], ◌∷◌, ◌++◌, length, get_or, take, refl, sym, ap, ◌∙◌, subst, arith}
use Rattle.std.specs.Prelude.{ℤ, pos, slice_index_or}
use Rattle.std.proofs.lemmas.List.{map-append, take_more}
use Rattle.bits_core.specs.Word.{number}
use Rattle.word_eqs.specs.declared.term.TermId.{TermId}
use Rattle.word_eqs.specs.Graph.{Graph}
use Rattle.joint_ir.specs.declared.ctype.IntType.{IntType}
use Rattle.joint_ir.specs.declared.program.Var.{Var}
use Rattle.joint_ir.specs.States.{copies, element_count}
use Rattle.joint_ir.specs.WellFormed.{AreTerms}
use Rattle.joint_value.proofs.Elements.{filled_more}
use Rattle.sized_terms.specs.declared.SizedTerm.{SizedTerm}
use Rattle.sized_terms.specs.Sized.{bits}
use Rattle.unrolled.specs.declared.Unrolled.{Unrolled}
use Rattle.unwind_state.specs.Guards.{Adds}
use Rattle.unwind_state.specs.Images.{words, numbers}
use Rattle.unwind_state.specs.Unwinding.{Grows}
use Rattle.unwind_state.proofs.Gates.{adds_none}
use Rattle.unwind_module.proofs.Terms.{grows_adds, terms_none, terms_kept, terms_push, sized_is}
use Rattle.unwind.specs.Rows.{IsElement, ArePart, IsRow, AreRows, HasRow}

-- the same term later on
pub element_kept : (n0 n1 n2 : Unrolled) (ty : IntType) (t : SizedTerm) (n : ℤ) → Adds n1 n2 → IsElement n0 n1 ty t n → IsElement n2 n2 ty t n
element_kept n0 n1 n2 ty t n A E = record {
  adds = adds_none n2 A.proper;
  has = A.kept t E.has;
  width = E.width;
  stands = λ v r. E.stands v (A.grown v r);
}

pub part_none : (g : Graph) (x : Var) → ArePart g x 0 []
part_none g x = record { terms = terms_none g; stand = λ v r. refl }

pub part_grown : (n0 n1 : Unrolled) (x : Var) (k : ℕ) (ids : List TermId) → Grows n0.terms n1.terms → ArePart n0.terms x k ids → ArePart n1.terms x k ids
part_grown n0 n1 x k ids G P = record {
  terms = terms_kept n0.terms n1.terms ids (copies k x.ty.bits) G P.terms;
  stand = λ v r. P.stand v (G.grown v r);
}

copies_next : (k w : ℕ) → copies (suc k) w ≡ copies k w ++ w ∷ []
copies_next zero w = refl
copies_next (suc k) w = ap (λ (l : List ℕ). w ∷ l) (copies_next k w)

copies_more : (k w : ℕ) → copies (k + 1) w ≡ copies k w ++ w ∷ []
copies_more k w = let e : k + 1 ≡ suc k = omega arith in ap (λ n. copies n w) e ∙ copies_next k w

pub part_more : (n0 n1 : Unrolled) (x : Var) (k : ℕ) (ids : List TermId) (t : SizedTerm) → ArePart n0.terms x k ids → IsElement n0 n1 x.ty t (slice_index_or x.firsts k (pos 0)) → ArePart n1.terms x (k + 1) (ids ++ t.term ∷ [])
part_more n0 n1 x k ids t P E = record {
  terms = subst (AreTerms n1.terms (ids ++ t.term ∷ [])) (sym (copies_more k x.ty.bits))
      (terms_push n1.terms ids t.term (copies k x.ty.bits) x.ty.bits (terms_kept n0.terms n1.terms ids (copies k x.ty.bits) (grows_adds n0 n1 E.adds) P.terms)
      (sized_is n1.terms t x.ty.bits E.has E.width));
  stand = λ v r. filled_more x.firsts (numbers x.ty (words v ids)) (numbers x.ty (words v (ids ++ t.term ∷ []))) k (number x.ty.signed x.ty.bits (bits v t))
      (P.stand v (E.adds.grown v r))
      (ap (numbers x.ty) (map-append (λ (y : TermId). (v.term y.0).value) ids (t.term ∷ [])) ∙ map-append (number x.ty.signed x.ty.bits) (words v ids) (bits v t ∷ []))
      (E.stands v r);
}

pub row_made : (n0 n1 : Unrolled) (x : Var) (count k : ℕ) (ids : List TermId) → Adds n0 n1 → count ≡ element_count x.length → k ≡ count → ArePart n1.terms x k ids → HasRow n0 n1 x ids
row_made n0 n1 x count k ids A e d P = record { adds = A; row = subst (λ n. ArePart n1.terms x n ids) (d ∙ e) P }

-- objects

rows_push : (g : Graph) (vars : List Var) (rows : List (List TermId)) (x : Var) (ids : List TermId) → AreRows g vars rows → IsRow g x ids → AreRows g (vars ++ x ∷ []) (rows ++ ids ∷ [])
rows_push g [] [] x ids a h = (h, tt)
rows_push g [] (row ∷ rows) x ids a h = absurd a
rows_push g (y ∷ vars) [] x ids a h = absurd a
rows_push g (y ∷ vars) (row ∷ rows) x ids a h = (a.0, rows_push g vars rows x ids a.1 h)

pub rows_more : (g : Graph) (vars : List Var) (rows : List (List TermId)) (k : ℕ) (x : Var) (ids : List TermId) → k < length vars → x ≡ get_or vars k x → AreRows g (take k vars) rows → IsRow g x ids → AreRows g (take (k + 1) vars) (rows ++ ids ∷ [])
rows_more g vars rows k x ids lt e a h =
    let d : take (k + 1) vars ≡ take k vars ++ x ∷ [] = take_more vars k x lt ∙ ap (λ y. take k vars ++ y ∷ []) (sym e) in
    subst (λ l. AreRows g l (rows ++ ids ∷ [])) (sym d) (rows_push g (take k vars) rows x ids a h)

pub rows_grown : (n0 n1 : Unrolled) (vars : List Var) (rows : List (List TermId)) → Grows n0.terms n1.terms → AreRows n0.terms vars rows → AreRows n1.terms vars rows
rows_grown n0 n1 [] [] G a = tt
rows_grown n0 n1 [] (row ∷ rows) G a = absurd a
rows_grown n0 n1 (x ∷ vars) [] G a = absurd a
rows_grown n0 n1 (x ∷ vars) (row ∷ rows) G a = (part_grown n0 n1 x (element_count x.length) row G a.0, rows_grown n0 n1 vars rows G a.1)

pub rows_kept : (n0 n1 : Unrolled) (vars : List Var) (rows : List (List TermId)) → Adds n0 n1 → AreRows n0.terms vars rows → AreRows n1.terms vars rows
rows_kept n0 n1 vars rows A a = rows_grown n0 n1 vars rows (grows_adds n0 n1 A) a

-- the number of elements, by the code's test
pub count_one : (n count : ℕ) → n ≡ 0 → count ≡ 1 → count ≡ element_count n
count_one n count e d = d ∙ sym (ap element_count e)

pub count_many : (n count : ℕ) → (n ≡ 0 → ⊥) → count ≡ n → count ≡ element_count n
count_many zero count h d = absurd (h refl)
count_many (suc n) count h d = d
