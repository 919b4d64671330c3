-- Lists with no literal twice.
use Rattle.std.proofs.Common.{◌≡◌, ℕ, ◌+◌, ◌<◌, ◌≤◌, Bool, true, false, ◌||◌, inl, inr, List, [], ◌∷◌, ◌++◌, length, take, get_or, refl, sym, ap, ◌∙◌, subst, arith}
use Rattle.std.specs.List.{IsDistinct}
use Rattle.std.specs.Cmp.{IsEquivalence}
use Rattle.std.proofs.lemmas.Bool.{both_ways}
use Rattle.std.proofs.lemmas.List.Folds.{list_any-append, list_any_more}
use Rattle.std.proofs.lemmas.Map.Keys.{apart_from_distinct, IsDistinct-push}
use Rattle.clause_arena.specs.declared.Lit.{Lit}
use Rattle.clause_arena.specs.Clause.{Clause, opposite, has, lit_eq, is_below, IsEachOnce}
use Rattle.clause_arena.proofs.Sets.{lit_eq-true, lit_eq-refl, bool_iff, list_all-at}
use Rattle.res_log.specs.Partial.{is_false}
use Rattle.cdcl.specs.Trail.{IsConsistent}
use Rattle.cdcl.proofs.Looks.{has-at}
use Rattle.cdcl.proofs.Back.{var-cases}
use Rattle.cdcl.proofs.Gains.{apart}
use Rattle.cdcl.proofs.Spread.{length-vars}
use Rattle.cdcl.proofs.Reasons.{all-below}

flips : (x y : Lit) → lit_eq x y ≡ true → lit_eq y x ≡ true
flips x y h = subst (λ (z : Lit). lit_eq z x ≡ true) (lit_eq-true x y h) (lit_eq-refl x)

pub lit_eq-equiv : IsEquivalence lit_eq
lit_eq-equiv = record {
  refl = lit_eq-refl;
  symm = λ x y. bool_iff (lit_eq x y) (lit_eq y x) (flips x y) (flips y x);
  congr = λ x y z h. ap (λ (w : Lit). lit_eq w z) (lit_eq-true x y h);
}

pub once-start : (xs : Clause) → xs ≡ [] → ((m : Lit) → has xs m ≡ false) × IsEachOnce xs
unfolding IsDistinct
once-start [] e = ((λ m. refl), tt)
once-start (x ∷ xs) e = cc

-- a false clause with no literal twice is no longer than there are variables
pub few-lits : (vars : ℕ) (p : List Lit) (c : Clause) → IsConsistent p → is_below vars p ≡ true → is_false p c ≡ true → IsEachOnce c → length c ≤ vars
few-lits vars p c h b f o =
    length-vars vars c (λ i j d lt l e.
    let x = get_or c i d in
    let y = get_or c j d in
    let hx : has p (opposite x) ≡ true = list_all-at (λ m. has p (opposite m)) c f x (has-at c i d (omega arith)) in
    let hy : has p (opposite y) ≡ true = list_all-at (λ m. has p (opposite m)) c f y (has-at c j d l) in
    let n = apart_from_distinct lit_eq c i j d o lt l in
    elim (var-cases x y e) [
      | inl u ↦ both_ways _ n (ap (lit_eq x) (sym u) ∙ lit_eq-refl x)
      | inr u ↦ apart p h (opposite y) hy (ap (has p) (sym (ap opposite u)) ∙ hx)
    ]) (all-below vars p c b f)

or_false : (b : Bool) → (b || false) ≡ b
or_false true = refl
or_false false = refl

pub once-push : (lits out next d : Clause) (i : ℕ) (z : Lit) → i < length lits → d ≡ out → false ≡ has d (get_or lits i z) → next ≡ out ++ get_or lits i z ∷ [] → ((m : Lit) → has out m ≡ has (take i lits) m) → IsEachOnce out → ((m : Lit) → has next m ≡ has (take (i + 1) lits) m) × IsEachOnce next
once-push lits out next d i z l e f g s o = (
  λ m.
      ap (λ (c : Clause). has c m) g
      ∙ list_any-append (lit_eq m) out (get_or lits i z ∷ [])
      ∙ ap (λ (b : Bool). b || (lit_eq m (get_or lits i z) || false)) (s m)
      ∙ ap (λ (b : Bool). has (take i lits) m || b) (or_false (lit_eq m (get_or lits i z)))
      ∙ sym (list_any_more (lit_eq m) lits i z l),
  subst IsEachOnce (sym g) (IsDistinct-push lit_eq-equiv out (get_or lits i z) o (ap (λ (c : Clause). has c (get_or lits i z)) (sym e) ∙ sym f)),
)
