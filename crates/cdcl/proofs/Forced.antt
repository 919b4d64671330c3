-- A false clause resolved with the clause that forced the opposite of one of its literals is false before that.
use Rattle.std.proofs.Common.{◌≡◌, ℕ, Bool, true, false, not, ◌||◌, ◌⊎◌, inl, inr, List, [], ◌∷◌, ◌++◌, Some, refl, sym, ap, ◌∙◌}
use Rattle.std.proofs.lemmas.Bool.{and_parts, and_from, or_cases, or_left, or_right, false≢true, both_ways, not-true, not_from_false, false_from_ne_true, cond-true, eq-eqb}
use Rattle.clause_arena.specs.declared.Lit.{Lit}
use Rattle.clause_arena.specs.Clause.{Clause, lit, opposite, lit_eq, has, is_tautology, has_only, clash, without, resolve}
use Rattle.clause_arena.proofs.Sets.{lit_eq-true, passing, list_all-at, list_all-from_has, has-append, has-resolvent}
use Rattle.res_log.specs.Partial.{is_false, is_forced}
use Rattle.cdcl.specs.Trail.{Fits}

pub not-not : (b : Bool) → not (not b) ≡ b
not-not true = refl
not-not false = refl

pub opposite-opposite : (l : Lit) → opposite (opposite l) ≡ l
opposite-opposite l = ap (λ (b : Bool). lit b l.var) (not-not l.negative)

not-same : (b : Bool) → not b ≡ b → ⊥
not-same true h = cc
not-same false h = cc

pub opposite-other : (l : Lit) → opposite l ≡ l → ⊥
opposite-other l h = not-same l.negative (ap (λ (x : Lit). x.negative) h)

-- a literal of a clause that is false once l is true
pub false-at : (p : List Lit) (l : Lit) (c : Clause) → is_false (p ++ l ∷ []) c ≡ true → (m : Lit) → has c m ≡ true → (has p (opposite m) ≡ true) ⊎ (opposite m ≡ l)
false-at p l c f m h =
    let e : has (p ++ l ∷ []) (opposite m) ≡ true = list_all-at (λ x. has (p ++ l ∷ []) (opposite x)) c f m h in
    elim (or_cases (has p (opposite m)) (has (l ∷ []) (opposite m)) (sym (has-append p (l ∷ []) (opposite m)) ∙ e)) [
      | inl a ↦ inl a
      | inr a ↦ elim (or_cases (lit_eq (opposite m) l) false a) [ inl b ↦ inr (lit_eq-true _ _ b) | inr b ↦ absurd (false≢true b) ]
    ]

pub forced-at : (p : List Lit) (l : Lit) (r : Clause) → is_forced p l r ≡ true → (m : Lit) → has r m ≡ true → (m ≡ l) ⊎ (has p (opposite m) ≡ true)
forced-at p l r f m h =
    elim (or_cases (lit_eq m l) (has p (opposite m)) (list_all-at (λ x. lit_eq x l || has p (opposite x)) r (and_parts _ _ f).1 m h)) [
      | inl a ↦ inl (lit_eq-true _ _ a)
      | inr a ↦ inr a
    ]

-- l is not in the false clause
pub absent : (p : List Lit) (l : Lit) (c : Clause) → Fits p l → is_false (p ++ l ∷ []) c ≡ true → has c l ≡ false
absent p l c w f =
    false_from_ne_true _ (λ h. elim (false-at p l c f l h) [ inl a ↦ w.fresh (opposite l) a refl | inr a ↦ opposite-other l a ])

-- the opposite of l is not in the clause that forces it
pub absent-forced : (p : List Lit) (l : Lit) (r : Clause) → Fits p l → is_forced p l r ≡ true → has r (opposite l) ≡ false
absent-forced p l r w f =
    false_from_ne_true _ (λ h.
    elim (forced-at p l r f (opposite l) h) [
      | inl a ↦ opposite-other l a
      | inr a ↦ w.fresh (opposite (opposite l)) a refl
    ])

pub clash-from : (s : Bool) (c d : Clause) (v : ℕ) → has_only (not s) c v ≡ true → has_only s d v ≡ true → clash c d v ≡ true
clash-from true c d v h g = or_left _ _ (and_from _ _ h g)
clash-from false c d v h g = or_right _ _ (and_from _ _ h g)

pub forced-clash : (p : List Lit) (l : Lit) (c r : Clause) → Fits p l → is_false (p ++ l ∷ []) c ≡ true → has c (opposite l) ≡ true → is_forced p l r ≡ true → clash c r l.var ≡ true
forced-clash p l c r w f h g =
    clash-from l.negative c r l.var
    (and_from _ _ h (not_from_false _ (ap (λ (b : Bool). has c (lit b l.var)) (not-not l.negative) ∙ absent p l c w f)))
    (and_from _ _ (and_parts _ _ g).0 (not_from_false _ (absent-forced p l r w g)))

-- the literals of the resolvent are false before l
pub forced-false : (p : List Lit) (l : Lit) (c r : Clause) → is_false (p ++ l ∷ []) c ≡ true → is_forced p l r ≡ true → is_false p (without l.var c ++ without l.var r) ≡ true
forced-false p l c r f g =
    list_all-from_has (λ m. has p (opposite m)) _ (λ m h.
    let e = and_parts _ _ (sym (has-resolvent c r l.var m) ∙ h) in
    let n : m.var ≡ l.var → ⊥ = λ q. both_ways _ (not-true _ e.1) (eq-eqb _ _ q) in
    elim (or_cases (has c m) (has r m) e.0) [
      | inl a ↦ elim (false-at p l c f m a) [ inl b ↦ b | inr b ↦ absurd (n (ap (λ (x : Lit). x.var) b)) ]
      | inr a ↦ elim (forced-at p l r g m a) [ inl b ↦ absurd (n (ap (λ (x : Lit). x.var) b)) | inr b ↦ b ]
    ])

pub false-plain : (p : List Lit) (l : Lit) (c : Clause) → Fits p l → is_false p c ≡ true → is_tautology c ≡ false
false-plain p l c w f =
    false_from_ne_true _ (λ t.
    let x = passing (λ m. has c (opposite m)) c t in
    let a = list_all-at (λ m. has p (opposite m)) c f x.0 x.1 in
    let b = list_all-at (λ m. has p (opposite m)) c f (opposite x.0) x.2 in
    w.apart (opposite x.0) a b)

-- the resolvent of a false clause with the reason of its newest literal, and that it is false before
pub forced-resolve : (p : List Lit) (l : Lit) (c r : Clause) → Fits p l → is_false (p ++ l ∷ []) c ≡ true → has c (opposite l) ≡ true → is_forced p l r ≡ true → resolve c r l.var ≡ Some (without l.var c ++ without l.var r)
forced-resolve p l c r w f h g =
    cond-true _ _ _ (and_from _ _ (forced-clash p l c r w f h g) (not_from_false _ (false-plain p l (without l.var c ++ without l.var r) w (forced-false p l c r f g))))
