-- What is in a clause, and what a resolvent keeps.
use Rattle.std.proofs.Common.{◌≡◌, ℕ, Bool, true, false, not, ◌==◌, ◌&&◌, ◌||◌, ◌⊎◌, inl, inr, [], ◌∷◌, ◌++◌, filter, refl, sym, ◌∙◌, ap, subst}
use Rattle.std.specs.List.{list_any, list_all}
use Rattle.std.proofs.lemmas.Bool.{eqb-true, eq-eqb, or_cases, or_left, or_right, and_parts, and_from, cases_Bool, and_right, false≢true, not-true, both_ways, false_from_ne_true}
use Rattle.std.proofs.lemmas.List.Folds.{list_any-append}
use Rattle.clause_arena.specs.declared.Lit.{Lit}
use Rattle.clause_arena.specs.Clause.{Clause, lit, opposite, bool_eq, lit_eq, has, is_same, is_tautology, has_only, clash, without, value_of, satisfies}

distributes : (a b c : Bool) → ((a && c) || (b && c)) ≡ ((a || b) && c)
distributes true true true = refl
distributes true true false = refl
distributes true false true = refl
distributes true false false = refl
distributes false b c = refl

pub bool_iff : (a b : Bool) → (a ≡ true → b ≡ true) → (b ≡ true → a ≡ true) → a ≡ b
bool_iff true b f g = sym (f refl)
bool_iff false true f g = g refl
bool_iff false false f g = refl

pub bool_eq-true : (a b : Bool) → bool_eq a b ≡ true → a ≡ b
bool_eq-true true b h = sym h
bool_eq-true false true h = h
bool_eq-true false false h = refl

bool_cases : (s t : Bool) → (t ≡ s) ⊎ (t ≡ not s)
bool_cases true true = inl refl
bool_cases true false = inr refl
bool_cases false true = inr refl
bool_cases false false = inl refl

pub bool_eq-refl : (a : Bool) → bool_eq a a ≡ true
bool_eq-refl true = refl
bool_eq-refl false = refl

pub lit_eq-true : (a b : Lit) → lit_eq a b ≡ true → a ≡ b
lit_eq-true a b h =
    let p = and_parts _ _ h in
    let v : a.var ≡ b.var = eqb-true _ _ p.0 in
    let s : a.negative ≡ b.negative = bool_eq-true _ _ p.1 in
    ap (λ (n : ℕ). lit a.negative n) v ∙ ap (λ (g : Bool). lit g b.var) s

pub lit_eq-refl : (a : Lit) → lit_eq a a ≡ true
lit_eq-refl a = and_from _ _ (eq-eqb a.var a.var refl) (bool_eq-refl a.negative)

-- a literal that passes a test that some literal passes
pub passing : (p : Lit → Bool) (c : Clause) → list_any p c ≡ true → (l : Lit) × (has c l ≡ true) × (p l ≡ true)
passing p [] h = absurd (false≢true h)
passing p (x ∷ xs) h =
    elim (or_cases (p x) (list_any p xs) h) [
      | inl e ↦ (x, or_left _ _ (lit_eq-refl x), e)
      | inr e ↦ let w = passing p xs e in (w.0, or_right _ _ w.1, w.2)
    ]

pub list_any-from_has : (p : Lit → Bool) (c : Clause) (l : Lit) → has c l ≡ true → p l ≡ true → list_any p c ≡ true
list_any-from_has p [] l h e = h
list_any-from_has p (x ∷ xs) l h e =
    elim (or_cases (lit_eq l x) (has xs l) h) [
      | inl q ↦ or_left _ _ (subst (λ (y : Lit). p y ≡ true) (lit_eq-true l x q) e)
      | inr q ↦ or_right _ _ (list_any-from_has p xs l q e)
    ]

pub list_all-at : (p : Lit → Bool) (c : Clause) → list_all p c ≡ true → (l : Lit) → has c l ≡ true → p l ≡ true
list_all-at p [] a l h = absurd (false≢true h)
list_all-at p (x ∷ xs) a l h =
    let parts = and_parts (p x) (list_all p xs) a in
    elim (or_cases (lit_eq l x) (has xs l) h) [
      | inl q ↦ subst (λ (y : Lit). p y ≡ true) (sym (lit_eq-true l x q)) parts.0
      | inr q ↦ list_all-at p xs parts.1 l q
    ]

pub list_all-from_has : (p : Lit → Bool) (c : Clause) → ((l : Lit) → has c l ≡ true → p l ≡ true) → list_all p c ≡ true
list_all-from_has p [] f = refl
list_all-from_has p (x ∷ xs) f =
    and_from _ _ (f x (or_left _ _ (lit_eq-refl x))) (list_all-from_has p xs (λ l h. f l (or_right (lit_eq l x) _ h)))

pub has-append : (c d : Clause) (l : Lit) → has (c ++ d) l ≡ (has c l || has d l)
has-append c d l = list_any-append (lit_eq l) c d

pub has-filter : (p : Lit → Bool) (c : Clause) (l : Lit) → has (filter p c) l ≡ (has c l && p l)
has-filter p [] l = refl
has-filter p (x ∷ xs) l =
    let ih = has-filter p xs l in
    elim (cases_Bool (lit_eq l x)) [
      | inl e ↦
          let s : l ≡ x = lit_eq-true l x e in
          elim (cases_Bool (p x)) [
            | inl t ↦ let u : p l ≡ true = rw s t in rw (t, e, u) refl
            | inr t ↦ let u : p l ≡ false = rw s t in rw (t, ih, e, u) (and_right (has xs l) false refl)
          ]
      | inr e ↦ elim (cases_Bool (p x)) [ inl t ↦ rw (t, e, ih) refl | inr t ↦ rw (t, e, ih) refl ]
    ]

pub has-without : (v : ℕ) (c : Clause) (l : Lit) → has (without v c) l ≡ (has c l && not (l.var == v))
has-without v c l = has-filter (λ x. not (x.var == v)) c l

-- what the resolvent has: the literals of both of other variables
pub has-resolvent : (c d : Clause) (v : ℕ) (l : Lit) → has (without v c ++ without v d) l ≡ ((has c l || has d l) && not (l.var == v))
has-resolvent c d v l =
    rw (has-append (without v c) (without v d) l, has-without v c l, has-without v d l) (distributes (has c l) (has d l) (not (l.var == v)))

-- one set: the same literals
pub is_same-at : (c d : Clause) → is_same c d ≡ true → (l : Lit) → has c l ≡ has d l
is_same-at c d h l =
    let p = and_parts _ _ h in
    bool_iff (has c l) (has d l) (list_all-at (has d) c p.0 l) (list_all-at (has c) d p.1 l)

pub is_same-from : (c d : Clause) → ((l : Lit) → has c l ≡ has d l) → is_same c d ≡ true
is_same-from c d f =
    and_from _ _ (list_all-from_has (has d) c (λ l h. sym (f l) ∙ h)) (list_all-from_has (has c) d (λ l h. f l ∙ h))

-- a set that holds no literal with its negation
pub is_tautology-false : (c : Clause) (l : Lit) → is_tautology c ≡ false → has c l ≡ true → has c (opposite l) ≡ false
is_tautology-false c l h e =
    false_from_ne_true _ (λ o. both_ways _ h (list_any-from_has (λ x. has c (opposite x)) c l e o))

-- the sign with which a variable stands alone
pub has_only-sign : (s : Bool) (c : Clause) (v : ℕ) (l : Lit) → has_only s c v ≡ true → has c l ≡ true → l.var ≡ v → l.negative ≡ s
has_only-sign s c v l h e q =
    let p = and_parts _ _ h in
    elim (bool_cases s l.negative) [
      | inl r ↦ r
      | inr r ↦
          let m : l ≡ lit (not s) v = ap (λ (n : ℕ). lit l.negative n) q ∙ ap (λ (g : Bool). lit g v) r in
          absurd (both_ways _ (not-true _ p.1) (subst (λ (x : Lit). has c x ≡ true) m e))
    ]

-- the literals of the variable of a clash do not both hold
same_sign : (a : ℕ → Bool) (c d : Clause) (v : ℕ) (x y : Lit) → clash c d v ≡ true → has c x ≡ true → has d y ≡ true → x.var ≡ v → y.var ≡ v → value_of a x ≡ true → value_of a y ≡ true → ⊥
same_sign a c d v x y k hx hy ex ey vx vy =
    let nx : a v ≡ not x.negative = ap a (sym ex) ∙ bool_eq-true _ _ vx in
    let ny : a v ≡ not y.negative = ap a (sym ey) ∙ bool_eq-true _ _ vy in
    let n : not x.negative ≡ not y.negative = sym nx ∙ ny in
    elim (or_cases (has_only false c v && has_only true d v) (has_only true c v && has_only false d v) k) [
      | inl p ↦
          let q = and_parts _ _ p in
          let sx : x.negative ≡ false = has_only-sign false c v x q.0 hx ex in
          let sy : y.negative ≡ true = has_only-sign true d v y q.1 hy ey in
          cc
      | inr p ↦
          let q = and_parts _ _ p in
          let sx : x.negative ≡ true = has_only-sign true c v x q.0 hx ex in
          let sy : y.negative ≡ false = has_only-sign false d v y q.1 hy ey in
          cc
    ]

-- values that satisfy both clauses satisfy their resolvent
pub satisfies-resolvent : (a : ℕ → Bool) (c d : Clause) (v : ℕ) → clash c d v ≡ true → satisfies a c ≡ true → satisfies a d ≡ true → satisfies a (without v c ++ without v d) ≡ true
satisfies-resolvent a c d v k h g =
    let x = passing (value_of a) c h in
    let y = passing (value_of a) d g in
    elim (cases_Bool (x.0.var == v)) [
      | inr e ↦ list_any-from_has (value_of a) _ x.0 (rw (has-resolvent c d v x.0, x.1, e) refl) x.2
      | inl e ↦
          elim (cases_Bool (y.0.var == v)) [
            | inr f ↦ list_any-from_has (value_of a) _ y.0 (rw (has-resolvent c d v y.0, y.1, f) (and_from _ _ (or_right _ _ refl) refl)) y.2
            | inl f ↦ absurd (same_sign a c d v x.0 y.0 k x.1 y.1 (eqb-true _ _ e) (eqb-true _ _ f) x.2 y.2)
          ]
    ]
