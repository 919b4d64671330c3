-- Each variable stands in a clause in one of three ways, so different clauses over n variables are at most 3 ^ n.
use Rattle.std.proofs.Common.{◌≡◌, ℕ, suc, ◌+◌, ◌*◌, ◌^◌, ◌<◌, ◌≤◌, length, Bool, true, false, inl, inr, List, [], ◌∷◌, map, refl, sym, ◌∙◌, arith, eqb}
use Rattle.std.specs.List.{list_any, list_all, IsDistinct, AllByRecursion}
use Rattle.std.proofs.lemmas.Bool.{eqb-true, or_cases, and_parts, cases_Bool, false≢true, not-true, both_ways, false_from_ne_true, ne_eqb}
use Rattle.std.proofs.Math.Nat.{pow-succ'}
use Rattle.std.proofs.lemmas.List.{length-map}
use Rattle.std.proofs.lemmas.Map.Steps.{length-le_from_distinct_below}
use Rattle.clause_arena.specs.declared.Lit.{Lit}
use Rattle.clause_arena.specs.Clause.{Clause, lit, has, is_same, is_tautology, AreDifferent}
use Rattle.log_laws.specs.Variables.{is_among, is_over, is_plain_over}
use Rattle.clause_arena.proofs.Sets.{list_all-at, is_same-from, is_tautology-false}

-- how a variable stands in a clause: 0 not at all, 1 itself, 2 its negation
abbrev place : Bool → Bool → ℕ
place true b = 1
place false true = 2
place false false = 0

abbrev digit : Clause → ℕ → ℕ
digit c v = place (has c (lit false v)) (has c (lit true v))

-- the digits of some variables as one number in base 3
abbrev code : List ℕ → Clause → ℕ
code [] c = 0
code (v ∷ vs) c = digit c v + 3 * code vs c

digit_small : (a b : Bool) → place a b < 3
digit_small true b = omega arith
digit_small false true = omega arith
digit_small false false = omega arith

digit-lt : (c : Clause) (v : ℕ) → digit c v < 3
digit-lt c v = digit_small (has c (lit false v)) (has c (lit true v))

code-lt : (vs : List ℕ) (c : Clause) → code vs c < 3 ^ length vs
code-lt [] c = omega arith
code-lt (v ∷ vs) c =
    let ih = code-lt vs c in
    let d = digit-lt c v in
    let p : 3 ^ suc (length vs) ≡ 3 * 3 ^ length vs = pow-succ' 3 (length vs) in
    omega arith

parts : (d e a b : ℕ) → d < 3 → e < 3 → d + 3 * a ≡ e + 3 * b → (d ≡ e) × (a ≡ b)
parts d e a b hd he h = (omega arith, omega arith)

code-digit : (vs : List ℕ) (c d : Clause) → code vs c ≡ code vs d → (v : ℕ) → is_among vs v ≡ true → digit c v ≡ digit d v
code-digit [] c d h v l = absurd (false≢true l)
code-digit (w ∷ vs) c d h v l =
    let p = parts _ _ _ _ (digit-lt c w) (digit-lt d w) h in
    elim (or_cases (eqb v w) (is_among vs v) l) [
      | inl m ↦ let e : v ≡ w = eqb-true _ _ m in rw e p.0
      | inr m ↦ code-digit vs c d p.1 v m
    ]

-- from one digit of two clauses that hold no literal with its negation, both literals
same_digit : (p q r s : Bool) → (p ≡ true → q ≡ false) → (r ≡ true → s ≡ false) → place p q ≡ place r s → (p ≡ r) × (q ≡ s)
same_digit true true r s f g h = absurd (false≢true (sym (f refl)))
same_digit p q true true f g h = absurd (false≢true (sym (g refl)))
same_digit true false true false f g h = (refl, refl)
same_digit true false false true f g h = absurd (omega arith)
same_digit true false false false f g h = absurd (omega arith)
same_digit false true true false f g h = absurd (omega arith)
same_digit false true false true f g h = (refl, refl)
same_digit false true false false f g h = absurd (omega arith)
same_digit false false true false f g h = absurd (omega arith)
same_digit false false false true f g h = absurd (omega arith)
same_digit false false false false f g h = (refl, refl)

pick : (s : Bool) (c d : Clause) (v : ℕ) → has c (lit false v) ≡ has d (lit false v) → has c (lit true v) ≡ has d (lit true v) → has c (lit s v) ≡ has d (lit s v)
pick true c d v f t = t
pick false c d v f t = f

same_below : (vs : List ℕ) (c d : Clause) → is_tautology c ≡ false → is_tautology d ≡ false → code vs c ≡ code vs d → (s : Bool) (v : ℕ) → is_among vs v ≡ true → has c (lit s v) ≡ has d (lit s v)
same_below vs c d tc td h s v l =
    let p = same_digit _ _ _ _ (is_tautology-false c (lit false v) tc) (is_tautology-false d (lit false v) td) (code-digit vs c d h v l) in
    pick s c d v p.0 p.1

none_past : (vs : List ℕ) (c : Clause) (l : Lit) → is_over vs c ≡ true → is_among vs l.var ≡ false → has c l ≡ false
none_past vs c l h e = false_from_ne_true _ (λ o. both_ways _ e (list_all-at (λ x. is_among vs x.var) c h l o))

same_from_code : (vs : List ℕ) (c d : Clause) → is_plain_over vs c ≡ true → is_plain_over vs d ≡ true → code vs c ≡ code vs d → is_same c d ≡ true
same_from_code vs c d pc pd h =
    let c' = and_parts _ _ pc in
    let d' = and_parts _ _ pd in
    is_same-from c d
    (λ l.
    elim (cases_Bool (is_among vs l.var)) [
      | inl m ↦ same_below vs c d (not-true _ c'.1) (not-true _ d'.1) h l.negative l.var m
      | inr m ↦ none_past vs c l c'.0 m ∙ sym (none_past vs d l d'.0 m)
    ])

apart : (vs : List ℕ) (c : Clause) (cs : List Clause) → is_plain_over vs c ≡ true → list_all (is_plain_over vs) cs ≡ true → AllByRecursion (λ d. is_same c d ≡ false) cs → AllByRecursion (λ y. eqb (code vs c) y ≡ false) (map (code vs) cs)
apart vs c [] p ps h = tt
apart vs c (d ∷ ds) p ps h =
    let q = and_parts _ _ ps in
    (ne_eqb _ _ (λ e. both_ways _ h.0 (same_from_code vs c d p q.0 e)), apart vs c ds p q.1 h.1)

distinct : (vs : List ℕ) (cs : List Clause) → list_all (is_plain_over vs) cs ≡ true → AreDifferent cs → IsDistinct eqb (map (code vs) cs)
unfolding IsDistinct
distinct vs [] ps h = tt
distinct vs (c ∷ cs) ps h =
    let q = and_parts _ _ ps in (apart vs c cs q.0 q.1 h.0, distinct vs cs q.1 h.1)

bounded : (vs : List ℕ) (cs : List Clause) (q : ℕ) → list_any (eqb q) (map (code vs) cs) ≡ true → q < 3 ^ length vs
bounded vs [] q h = absurd (false≢true h)
bounded vs (c ∷ cs) q h =
    elim (or_cases (eqb q (code vs c)) (list_any (eqb q) (map (code vs) cs)) h) [
      | inl e ↦ let w : q ≡ code vs c = eqb-true _ _ e in let k = code-lt vs c in omega arith
      | inr e ↦ bounded vs cs q e
    ]

pub count_law : (vs : List ℕ) (cs : List Clause) → list_all (is_plain_over vs) cs ≡ true → AreDifferent cs → length cs ≤ 3 ^ length vs
count_law vs cs ps h =
    omega (arith, length-le_from_distinct_below (map (code vs) cs) (3 ^ length vs) (distinct vs cs ps h) (bounded vs cs), length-map cs (code vs))
