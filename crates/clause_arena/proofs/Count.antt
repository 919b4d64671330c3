-- Each variable stands in a clause in one of three ways, so different clauses over n variables are at most 3 ^ n.
use Rattle.std.proofs.Common.{◌≡◌, ℕ, suc, zero, ◌+◌, ◌*◌, ◌^◌, ◌<◌, ◌≤◌, Bool, true, false, inl, inr, List, [], ◌∷◌, map, refl, sym, ◌∙◌, arith, eqb, ltb}
use Rattle.std.specs.List.{list_any, list_all, IsDistinct, AllByRecursion}
use Rattle.std.proofs.lemmas.Bool.{ltb-true, eqb-true, or_cases, and_parts, cases_lt, false≢true, not-true, both_ways, false_from_ne_true, ne_eqb}
use Rattle.std.proofs.Math.Nat.{pow-succ'}
use Rattle.std.proofs.lemmas.List.{length-map}
use Rattle.std.proofs.lemmas.Map.Steps.{length-le_from_distinct_below}
use Rattle.clause_arena.specs.declared.Lit.{Lit}
use Rattle.clause_arena.specs.Clause.{Clause, lit, has, is_same, is_tautology, is_below, is_plain, AreDifferent, CountLaw}
use Rattle.clause_arena.proofs.Sets.{list_all-at, is_same-from, is_tautology-false}

-- how a variable stands in a clause: 0 not at all, 1 itself, 2 its negation
abbrev place : Bool → Bool → ℕ
place true b = 1
place false true = 2
place false false = 0

abbrev digit : Clause → ℕ → ℕ
digit c v = place (has c (lit false v)) (has c (lit true v))

-- the digits of the first n variables as one number in base 3
abbrev code : ℕ → Clause → ℕ
code zero c = 0
code (suc n) c = digit c n + 3 * code n c

digit_small : (a b : Bool) → place a b < 3
digit_small true b = omega arith
digit_small false true = omega arith
digit_small false false = omega arith

digit-lt : (c : Clause) (v : ℕ) → digit c v < 3
digit-lt c v = digit_small (has c (lit false v)) (has c (lit true v))

code-lt : (n : ℕ) (c : Clause) → code n c < 3 ^ n
code-lt zero c = omega arith
code-lt (suc n) c =
    let ih = code-lt n c in
    let d = digit-lt c n in
    let p : 3 ^ suc n ≡ 3 * 3 ^ n = pow-succ' 3 n in
    omega arith

parts : (d e a b : ℕ) → d < 3 → e < 3 → d + 3 * a ≡ e + 3 * b → (d ≡ e) × (a ≡ b)
parts d e a b hd he h = (omega arith, omega arith)

code-digit : (n : ℕ) (c d : Clause) → code n c ≡ code n d → (v : ℕ) → v < n → digit c v ≡ digit d v
code-digit zero c d h v l = absurd (omega arith)
code-digit (suc n) c d h v l =
    let p = parts _ _ _ _ (digit-lt c n) (digit-lt d n) h in
    elim (cases_lt v n) [
      | inl m ↦ code-digit n c d p.1 v m
      | inr m ↦ let e : v ≡ n = omega arith in rw e p.0
    ]

-- from one digit of two clauses that hold no literal with its negation, both literals
same_digit : (p q r s : Bool) → (p ≡ true → q ≡ false) → (r ≡ true → s ≡ false) → place p q ≡ place r s → (p ≡ r) × (q ≡ s)
same_digit true true r s f g h = absurd (false≢true (sym (f refl)))
same_digit p q true true f g h = absurd (false≢true (sym (g refl)))
same_digit true false true false f g h = (refl, refl)
same_digit true false false true f g h = absurd (omega arith)
same_digit true false false false f g h = absurd (omega arith)
same_digit false true true false f g h = absurd (omega arith)
same_digit false true false true f g h = (refl, refl)
same_digit false true false false f g h = absurd (omega arith)
same_digit false false true false f g h = absurd (omega arith)
same_digit false false false true f g h = absurd (omega arith)
same_digit false false false false f g h = (refl, refl)

pick : (s : Bool) (c d : Clause) (v : ℕ) → has c (lit false v) ≡ has d (lit false v) → has c (lit true v) ≡ has d (lit true v) → has c (lit s v) ≡ has d (lit s v)
pick true c d v f t = t
pick false c d v f t = f

same_below : (n : ℕ) (c d : Clause) → is_tautology c ≡ false → is_tautology d ≡ false → code n c ≡ code n d → (s : Bool) (v : ℕ) → v < n → has c (lit s v) ≡ has d (lit s v)
same_below n c d tc td h s v l =
    let p = same_digit _ _ _ _ (is_tautology-false c (lit false v) tc) (is_tautology-false d (lit false v) td) (code-digit n c d h v l) in
    pick s c d v p.0 p.1

none_past : (n : ℕ) (c : Clause) (l : Lit) → is_below n c ≡ true → n ≤ l.var → has c l ≡ false
none_past n c l h e = false_from_ne_true _ (λ o. let q = ltb-true _ _ (list_all-at (λ x. ltb x.var n) c h l o) in absurd (omega arith))

same_from_code : (n : ℕ) (c d : Clause) → is_plain n c ≡ true → is_plain n d ≡ true → code n c ≡ code n d → is_same c d ≡ true
same_from_code n c d pc pd h =
    let c' = and_parts _ _ pc in
    let d' = and_parts _ _ pd in
    is_same-from c d
    (λ l.
    elim (cases_lt l.var n) [
      | inl m ↦ same_below n c d (not-true _ c'.1) (not-true _ d'.1) h l.negative l.var m
      | inr m ↦ none_past n c l c'.0 m ∙ sym (none_past n d l d'.0 m)
    ])

apart : (n : ℕ) (c : Clause) (cs : List Clause) → is_plain n c ≡ true → list_all (is_plain n) cs ≡ true → AllByRecursion (λ d. is_same c d ≡ false) cs → AllByRecursion (λ y. eqb (code n c) y ≡ false) (map (code n) cs)
apart n c [] p ps h = tt
apart n c (d ∷ ds) p ps h =
    let q = and_parts _ _ ps in
    (ne_eqb _ _ (λ e. both_ways _ h.0 (same_from_code n c d p q.0 e)), apart n c ds p q.1 h.1)

distinct : (n : ℕ) (cs : List Clause) → list_all (is_plain n) cs ≡ true → AreDifferent cs → IsDistinct eqb (map (code n) cs)
unfolding IsDistinct
distinct n [] ps h = tt
distinct n (c ∷ cs) ps h =
    let q = and_parts _ _ ps in (apart n c cs q.0 q.1 h.0, distinct n cs q.1 h.1)

bounded : (n : ℕ) (cs : List Clause) (q : ℕ) → list_any (eqb q) (map (code n) cs) ≡ true → q < 3 ^ n
bounded n [] q h = absurd (false≢true h)
bounded n (c ∷ cs) q h =
    elim (or_cases (eqb q (code n c)) (list_any (eqb q) (map (code n) cs)) h) [
      | inl e ↦ let w : q ≡ code n c = eqb-true _ _ e in let k = code-lt n c in omega arith
      | inr e ↦ bounded n cs q e
    ]

pub count_law : CountLaw
count_law n cs ps h =
    omega (arith, length-le_from_distinct_below (map (code n) cs) (3 ^ n) (distinct n cs ps h) (bounded n cs), length-map cs (code n))
