-- What a learned clause gains, and that going back keeps the trail's fact.
use Rattle.std.proofs.Common.{◌≡◌, ℕ, suc, zero, ◌<◌, ◌≤◌, eqb, ltb, Bool, true, false, not, ◌&&◌, ◌||◌, ◌⊎◌, inl, inr, List, [], ◌∷◌, ◌++◌, length, take, get_or, Option, Some, None, refl, sym, ap, ◌∙◌, subst, arith}
use Rattle.std.specs.List.{list_any, list_all}
use Rattle.std.specs.Option.{IsSomeAnd}
use Rattle.std.proofs.lemmas.Bool.{cases_Bool, and_parts, and_from, and_cases, or_cases, or_left, or_right, false≢true, both_ways, not-true, not_from_false, false_from_ne_true, eqb-true, eq-eqb}
use Rattle.std.proofs.lemmas.List.{get_or-take, length-take-le}
use Rattle.clause_arena.specs.declared.Lit.{Lit}
use Rattle.clause_arena.specs.declared.ClauseId.{ClauseId}
use Rattle.clause_arena.specs.Clause.{Clause, Clauses, clause_at, opposite, has, lit_eq, is_same, without, is_below}
use Rattle.clause_arena.proofs.Sets.{lit_eq-true, lit_eq-refl, passing, list_all-at, list_all-from_has, has-without, is_same-at, is_tautology-false}
use Rattle.res_log.specs.Partial.{IsPartial, is_free, is_false, is_true, is_forced, is_quiet, has_two_free, IsAsserting}
use Rattle.cdcl.specs.Trail.{IsConsistent, Reasons, State, AllClauses}
use Rattle.cdcl.proofs.Forced.{opposite-other}
use Rattle.cdcl.proofs.Back.{place-of, one-var, var-cases}
use Rattle.cdcl.proofs.Looks.{quiet-two}
use Rattle.cdcl.proofs.Parts.{Some-is, some-parts, some-and}

-- no literal is true with its negation
pub apart : (p : List Lit) → IsConsistent p → (m : Lit) → has p m ≡ true → has p (opposite m) ≡ true → ⊥
apart p h m a o =
    let w = place-of p m a in
    let v = place-of p (opposite m) o in
    opposite-other m (sym (one-var p h w.0 v.0 w.1 v.1 m (opposite m) w.2 v.2 refl))

-- such a list is a partial assignment
pub consistent-partial : (p : List Lit) → IsConsistent p → IsPartial p
consistent-partial p h =
    false_from_ne_true _ (λ t. let w = passing (λ l. has p (opposite l)) p t in apart p h w.0 w.1 w.2)

pub partial-apart : (p : List Lit) → IsPartial p → (m : Lit) → has p m ≡ true → has p (opposite m) ≡ true → ⊥
partial-apart p h m a o = both_ways _ (is_tautology-false p m h a) o

pub has-take : (p : List Lit) (i : ℕ) (x : Lit) → has (take i p) x ≡ true → has p x ≡ true
has-take [] zero x h = h
has-take [] (suc i) x h = h
has-take (y ∷ ys) zero x h = absurd (false≢true h)
has-take (y ∷ ys) (suc i) x h =
    elim (or_cases (lit_eq x y) (has (take i ys) x) h) [ inl e ↦ or_left _ _ e | inr e ↦ or_right _ _ (has-take ys i x e) ]

pub free-not-false : (p : List Lit) (l : Lit) → is_free p l ≡ true → has p (opposite l) ≡ true → ⊥
free-not-false p l f h = both_ways _ (not-true _ (and_parts _ _ f).1) h

-- a clause that is false, and that was quiet at an earlier moment, had two free literals of different variables then
pub two-free : (p : List Lit) (start : ℕ) (c : Clause) → IsConsistent p → is_false p c ≡ true → is_quiet (take start p) c ≡ true → (v : ℕ) → is_false (take start p) (without v c) ≡ false
two-free p start c h f q v =
    let q0 = take start p in
    elim (or_cases (is_true q0 c) (has_two_free q0 c) q) [
      | inl t ↦
          let w = passing (has q0) c t in
          absurd (apart p h w.0 (has-take p start w.0 w.2) (list_all-at (λ m. has p (opposite m)) c f w.0 w.1))
      | inr t ↦
          let w = passing (λ l. is_free q0 l && list_any (λ m. is_free q0 m && not (lit_eq m l)) c) c t in
          let a = and_parts _ _ w.2 in
          let u = passing (λ m. is_free q0 m && not (lit_eq m w.0)) c a.1 in
          let b = and_parts _ _ u.2 in
          let open_var : (l : Lit) → has c l ≡ true → is_free q0 l ≡ true → is_false q0 (without v c) ≡ true → l.var ≡ v = λ l k g z.
          elim (cases_Bool (eqb l.var v)) [
            | inl e ↦ eqb-true _ _ e
            | inr e ↦ absurd (free-not-false q0 l g (list_all-at (λ m. has q0 (opposite m)) (without v c) z l (has-without v c l ∙ and_from _ _ k (not_from_false _ e))))
          ]
          in
          false_from_ne_true _ (λ z.
          let e : u.0.var ≡ w.0.var = open_var u.0 u.1 b.0 z ∙ sym (open_var w.0 w.1 a.0 z) in
          elim (var-cases u.0 w.0 e) [
            | inl s ↦ both_ways _ (not-true _ b.1) (ap (λ (x : Lit). lit_eq x w.0) s ∙ lit_eq-refl w.0)
            | inr s ↦
                let x : has p (opposite w.0) ≡ true = list_all-at (λ m. has p (opposite m)) c f w.0 w.1 in
                let y : has p (opposite (opposite w.0)) ≡ true = ap (λ (m : Lit). has p (opposite m)) (sym s) ∙ list_all-at (λ m. has p (opposite m)) c f u.0 u.1 in
                apart p h (opposite w.0) x y
          ])
    ]

-- a clause that propagation would make true is none of the quiet ones
pub learned-new : (p : List Lit) (c d : Clause) → IsPartial p → IsAsserting p c → is_quiet p d ≡ true → is_same c d ≡ false
learned-new p c d h a q =
    false_from_ne_true _ (λ s.
    let f = and_parts _ _ a.2 in
    let back : (m : Lit) → has d m ≡ true → (m ≡ a.0) ⊎ (has p (opposite m) ≡ true) = λ m k.
    elim (or_cases (lit_eq m a.0) (has p (opposite m)) (list_all-at (λ x. lit_eq x a.0 || has p (opposite x)) c f.1 m (is_same-at c d s m ∙ k))) [
      | inl e ↦ inl (lit_eq-true _ _ e)
      | inr e ↦ inr e
    ]
    in
    elim (or_cases (is_true p d) (has_two_free p d) q) [
      | inl t ↦
          let w = passing (has p) d t in
          elim (back w.0 w.1) [
            | inl e ↦ both_ways _ (not-true _ (and_parts _ _ a.1).0) (ap (has p) (sym e) ∙ w.2)
            | inr e ↦ partial-apart p h w.0 w.2 e
          ]
      | inr t ↦
          let w = passing (λ l. is_free p l && list_any (λ m. is_free p m && not (lit_eq m l)) d) d t in
          let g = and_parts _ _ w.2 in
          let u = passing (λ m. is_free p m && not (lit_eq m w.0)) d g.1 in
          let b = and_parts _ _ u.2 in
          let only : (l : Lit) → has d l ≡ true → is_free p l ≡ true → l ≡ a.0 = λ l k z. elim (back l k) [ inl e ↦ e | inr e ↦ absurd (free-not-false p l z e) ] in
          both_ways _ (not-true _ b.1) (ap (λ (x : Lit). lit_eq x w.0) (only u.0 u.1 b.0 ∙ sym (only w.0 w.1 g.0)) ∙ lit_eq-refl w.0)
    ])

failing : (t : Lit → Bool) (c : Clause) → list_all t c ≡ false → (m : Lit) × (has c m ≡ true) × (t m ≡ false)
failing t [] h = absurd (false≢true (sym h))
failing t (x ∷ xs) h =
    elim (and_cases (t x) (list_all t xs) h) [
      | inl e ↦ (x, or_left _ _ (lit_eq-refl x), e)
      | inr e ↦ let w = failing t xs e in (w.0, or_right _ _ w.1, w.2)
    ]

pub free-take : (p : List Lit) (j : ℕ) (l : Lit) → is_free p l ≡ true → is_free (take j p) l ≡ true
free-take p j l f =
    let w = and_parts _ _ f in
    and_from _ _ (not_from_false _ (false_from_ne_true _ (λ a. both_ways _ (not-true _ w.0) (has-take p j l a))))
    (not_from_false _ (false_from_ne_true _ (λ a. both_ways _ (not-true _ w.1) (has-take p j (opposite l) a))))

-- the learned clause is quiet at each earlier moment at which its other literals are not all false
pub learned-quiet : (p : List Lit) (j : ℕ) (c : Clause) (l : Lit) → IsConsistent p → is_free p l ≡ true → is_forced p l c ≡ true → is_false (take j p) (without l.var c) ≡ false → is_quiet (take j p) c ≡ true
learned-quiet p j c l h f g n =
    let w = failing (λ m. has (take j p) (opposite m)) (without l.var c) n in
    let m = w.0 in
    let k = and_parts _ _ (sym (has-without l.var c m) ∙ w.1) in
    let z = and_parts _ _ g in
    let other : m ≡ l → ⊥ = λ e. both_ways _ (not-true _ k.1) (eq-eqb _ _ (ap (λ (x : Lit). x.var) e)) in
    let gone : has p (opposite m) ≡ true =
    elim (or_cases (lit_eq m l) (has p (opposite m)) (list_all-at (λ x. lit_eq x l || has p (opposite x)) c z.1 m k.0)) [
      | inl e ↦ absurd (other (lit_eq-true _ _ e))
      | inr e ↦ e
    ]
    in
    let free_m : is_free (take j p) m ≡ true =
    and_from _ _ (not_from_false _ (false_from_ne_true _ (λ a. apart p h m (has-take p j m a) gone))) (not_from_false _ w.2)
    in
    quiet-two (take j p) c l m z.0 k.0 (free-take p j l f) free_m (false_from_ne_true _ (λ e. other (lit_eq-true _ _ e)))

pub take-less : {X : Type 0} (xs : List X) (i k : ℕ) → i ≤ k → take i (take k xs) ≡ take i xs
take-less [] zero zero h = refl
take-less [] zero (suc k) h = refl
take-less [] (suc i) zero h = refl
take-less [] (suc i) (suc k) h = refl
take-less (x ∷ xs) zero zero h = refl
take-less (x ∷ xs) zero (suc k) h = refl
take-less (x ∷ xs) (suc i) zero h = absurd (omega arith)
take-less (x ∷ xs) (suc i) (suc k) h = ap (λ (ys : List _). x ∷ ys) (take-less xs i k (omega arith))

below-take : (vars : ℕ) (p : List Lit) (k : ℕ) → is_below vars p ≡ true → is_below vars (take k p) ≡ true
below-take vars p k h = list_all-from_has (λ l. ltb l.var vars) (take k p) (λ m a. list_all-at (λ l. ltb l.var vars) p h m (has-take p k m a))

pub consistent-take : (p : List Lit) (k : ℕ) → k ≤ length p → IsConsistent p → IsConsistent (take k p)
consistent-take p k h s i j d a b e =
    let n : length (take k p) ≡ k = length-take-le k p h in
    s i j d a (omega (arith, n))
    (ap (λ (x : Lit). x.var) (sym (get_or-take k p i d (omega (arith, n)))) ∙ e ∙ ap (λ (x : Lit). x.var) (get_or-take k p j d (omega (arith, n))))

-- going back to an earlier moment keeps what the solver keeps
pub state-take : (arena : Clauses) (vars : ℕ) (p : List Lit) (rs : Reasons) (k : ℕ) → k ≤ length p → State arena vars p rs → State arena vars (take k p) (take k rs)
state-take arena vars p rs k h s =
    let n : length (take k p) ≡ k = length-take-le k p h in
    let m : length (take k rs) ≡ k = length-take-le k rs (omega (arith, s.lengths)) in
    record {
      lengths = m ∙ sym n;
      below = below-take vars p k s.below;
      consistent = consistent-take p k h s.consistent;
      reasoned = λ i o l a id e.
          let b : i < k = omega (arith, n) in
          subst (λ (q : List Lit). IsSomeAnd (clause_at arena id.0) (λ c. is_forced q (get_or (take k p) i l) c ≡ true)) (sym (take-less p i k (omega arith)))
          (subst (λ (x : Lit). IsSomeAnd (clause_at arena id.0) (λ c. is_forced (take i p) x c ≡ true)) (sym (get_or-take k p i l b))
          (s.reasoned i o l (omega arith) id (sym (get_or-take k rs i o b) ∙ e)));
      complete = λ i o a e.
          let b : i < k = omega (arith, n) in
          subst (λ (q : List Lit). AllClauses (is_quiet q) arena) (sym (take-less p i k (omega arith))) (s.complete i o (omega arith) (sym (get_or-take k rs i o b) ∙ e));
    }

None-Some : (d : Clause) → None ≡ Some d → ⊥
None-Some d e = cc

-- a clause more, at the next id
pub clause-old : (arena : Clauses) (c : Clause) (id : ℕ) (d : Clause) → clause_at arena id ≡ Some d → clause_at (arena ++ Some c ∷ []) id ≡ Some d
clause-old [] c id d e = absurd (None-Some d e)
clause-old (x ∷ xs) c zero d e = e
clause-old (x ∷ xs) c (suc id) d e = clause-old xs c id d e

clause-more : (arena : Clauses) (c : Clause) (id : ℕ) (d : Clause) → clause_at (arena ++ Some c ∷ []) id ≡ Some d → (clause_at arena id ≡ Some d) ⊎ (c ≡ d)
clause-more [] c zero d e = inr (Some-is c d e)
clause-more [] c (suc id) d e = absurd (None-Some d e)
clause-more (x ∷ xs) c zero d e = inl e
clause-more (x ∷ xs) c (suc id) d e = clause-more xs c id d e

pub all-more : (t : Clause → Bool) (arena : Clauses) (c : Clause) → AllClauses t arena → t c ≡ true → AllClauses t (arena ++ Some c ∷ [])
all-more t arena c f h id d e =
    elim (clause-more arena c id d e) [ inl a ↦ f id d a | inr a ↦ subst (λ (x : Clause). t x ≡ true) a h ]

some-old : (arena : Clauses) (c : Clause) (id : ℕ) (P : Clause → Type 0) → IsSomeAnd (clause_at arena id) P → IsSomeAnd (clause_at (arena ++ Some c ∷ []) id) P
some-old arena c id P h =
    let w = some-parts (clause_at arena id) P h in some-and (clause_at (arena ++ Some c ∷ []) id) P w.0 (clause-old arena c id w.0 w.1) w.2

-- a learned clause that is quiet at the end of each level below keeps what the solver keeps
pub state-learn : (arena : Clauses) (vars : ℕ) (p : List Lit) (rs : Reasons) (c : Clause) → ((k : ℕ) (o : Option ClauseId) → k < length p → get_or rs k o ≡ None → is_quiet (take k p) c ≡ true) → State arena vars p rs → State (arena ++ Some c ∷ []) vars p rs
state-learn arena vars p rs c q s = record {
  lengths = s.lengths;
  below = s.below;
  consistent = s.consistent;
  reasoned = λ k o l a id e. some-old arena c id.0 (λ x. is_forced (take k p) (get_or p k l) x ≡ true) (s.reasoned k o l a id e);
  complete = λ k o a e. all-more (is_quiet (take k p)) arena c (s.complete k o a e) (q k o a e);
}
