-- Equal sets have equal keys, and only they.
use Rattle.std.proofs.Common.{◌⊎◌, inl, inr, ◌≡◌, ℕ, suc, zero, ◌+◌, ◌*◌, ◌<◌, Bool, true, false, not, ◌||◌, List, [], ◌∷◌, ◌++◌, length, get_or, map, eqb, cond, refl, sym, ◌∙◌, ap, subst, arith}
use Rattle.std.specs.Bool.{MatchBool}
use Rattle.std.specs.List.{list_any, Contains, AllPairs}
use Rattle.std.specs.List.Sorted.{IsPermutation}
use Rattle.std.specs.Cmp.{IsEquivalence}
use Rattle.std.specs.Cmp.Lexicographic.{pointwise}
use Rattle.std.proofs.lemmas.Bool.{eqb-true, eq-eqb, or_cases, or_left, or_right, and_parts, and_from, false≢true, not-false}
use Rattle.std.proofs.lemmas.List.Folds.{list_any-append}
use Rattle.std.proofs.lemmas.List.Kept.{AllPairs-from_increasing}
use Rattle.std.proofs.lemmas.List.Sorted.{list_any-IsPermutation}
use Rattle.clause_arena.specs.declared.Lit.{Lit}
use Rattle.clause_arena.specs.Clause.{Clause, lit, lit_eq, has, is_same}
use Rattle.clause_arena.proofs.Sets.{lit_eq-true, lit_eq-refl, is_same-at, is_same-from, bool_iff}
use Rattle.res_log.specs.Keys.{code_of, IsKey, Remembers}

flips : (x y : Lit) → lit_eq x y ≡ true → lit_eq y x ≡ true
flips x y h = subst (λ (z : Lit). lit_eq z x ≡ true) (lit_eq-true x y h) (lit_eq-refl x)

pub lit_eq-equiv : IsEquivalence lit_eq
lit_eq-equiv = record {
  refl = lit_eq-refl;
  symm = λ x y. bool_iff (lit_eq x y) (lit_eq y x) (flips x y) (flips y x);
  congr = λ x y z h. ap (λ (w : Lit). lit_eq w z) (lit_eq-true x y h);
}

bits-same : (v w : ℕ) (a b : Bool) → 2 * v + cond a 1 0 ≡ 2 * w + cond b 1 0 → (v ≡ w) × (a ≡ b)
bits-same v w true true h = (omega arith, refl)
bits-same v w true false h = absurd (omega arith)
bits-same v w false true h = absurd (omega arith)
bits-same v w false false h = (omega arith, refl)

code-same : (k l : Lit) → code_of k ≡ code_of l → k ≡ l
code-same k l h =
    let p = bits-same k.var l.var k.negative l.negative h in
    ap (λ (v : ℕ). lit k.negative v) p.0 ∙ ap (λ (b : Bool). lit b l.var) p.1

pub from-codes : (c : Clause) (x k : ℕ) → k < length (map code_of c) → get_or (map code_of c) k x ≡ x → (l : Lit) × (has c l ≡ true) × (x ≡ code_of l)
from-codes [] x k l e = absurd (omega arith)
from-codes (y ∷ ys) x zero l e = (y, or_left _ _ (lit_eq-refl y), sym e)
from-codes (y ∷ ys) x (suc k) l e = let w = from-codes ys x k (omega arith) e in (w.0, or_right _ _ w.1, w.2)

pub to-codes : (c : Clause) (l : Lit) → has c l ≡ true → Contains (map code_of c) (code_of l)
to-codes [] l h = absurd (false≢true h)
to-codes (y ∷ ys) l h =
    elim (or_cases (lit_eq l y) (has ys l) h) [
      | inl e ↦ (0, omega arith, ap code_of (sym (lit_eq-true l y e)))
      | inr e ↦ let w = to-codes ys l e in (suc w.0, omega (arith, w.1), w.2)
    ]

-- each number is below those that come later
abbrev Rises : List ℕ → Type 0
Rises = AllPairs (λ x y. x < y)

rises-tail : (x : ℕ) (xs : List ℕ) → Rises (x ∷ xs) → Rises xs
rises-tail x xs h = λ i j d l m. h (suc i) (suc j) d (omega arith) (omega arith)

rises-head : (x : ℕ) (xs : List ℕ) (y : ℕ) → Rises (x ∷ xs) → Contains xs y → x < y
rises-head x xs y h w = let m : x < get_or xs w.0 y = h 0 (suc w.0) y (omega arith) (omega (arith, w.1)) in subst (λ (z : ℕ). x < z) w.2 m

contains-cases : (x : ℕ) (xs : List ℕ) (y : ℕ) → Contains (x ∷ xs) y → (x ≡ y) ⊎ Contains xs y
contains-cases x xs y w = at w.0 w.1 w.2
  where
    at : (k : ℕ) → k < length (x ∷ xs) → get_or (x ∷ xs) k y ≡ y → (x ≡ y) ⊎ Contains xs y
    at zero l e = inl e
    at (suc k) l e = inr (k, omega arith, e)

contains-tail : (x : ℕ) (xs : List ℕ) (y : ℕ) → Contains xs y → Contains (x ∷ xs) y
contains-tail x xs y w = (suc w.0, omega (arith, w.1), w.2)

contains-head : (x : ℕ) (xs : List ℕ) → Contains (x ∷ xs) x
contains-head x xs = (0, omega arith, refl)

contains-none : (x : ℕ) → Contains [] x → ⊥
contains-none x w = let l : w.0 < 0 = w.1 in omega arith

heads-same : (x : ℕ) (xs : List ℕ) (y : ℕ) (ys : List ℕ) → Rises (x ∷ xs) → Rises (y ∷ ys) → Contains (y ∷ ys) x → Contains (x ∷ xs) y → x ≡ y
heads-same x xs y ys h g p q =
    elim (contains-cases y ys x p) [
      | inl e ↦ sym e
      | inr u ↦
          elim (contains-cases x xs y q) [
            | inl e ↦ e
            | inr v ↦ let a : y < x = rises-head y ys x g u in let b : x < y = rises-head x xs y h v in absurd (omega arith)
          ]
    ]

-- rising lists of the same numbers are equal
rising-same : (q p : List ℕ) → Rises q → Rises p → ((x : ℕ) → Contains q x → Contains p x) → ((x : ℕ) → Contains p x → Contains q x) → q ≡ p
rising-same [] [] h g f b = refl
rising-same [] (y ∷ ys) h g f b = absurd (contains-none y (b y (contains-head y ys)))
rising-same (x ∷ xs) [] h g f b = absurd (contains-none x (f x (contains-head x xs)))
rising-same (x ∷ xs) (y ∷ ys) h g f b =
    let e : x ≡ y = heads-same x xs y ys h g (f x (contains-head x xs)) (b y (contains-head y ys)) in
    let fs : (z : ℕ) → Contains xs z → Contains ys z = λ (z : ℕ) (w : Contains xs z).
    elim (contains-cases y ys z (f z (contains-tail x xs z w))) [
      | inl u ↦ let l : x < z = rises-head x xs z h w in absurd (omega arith)
      | inr u ↦ u
    ]
    in
    let bs : (z : ℕ) → Contains ys z → Contains xs z = λ (z : ℕ) (w : Contains ys z).
    elim (contains-cases x xs z (b z (contains-tail y ys z w))) [
      | inl u ↦ let l : y < z = rises-head y ys z g w in absurd (omega arith)
      | inr u ↦ u
    ]
    in
    let t : xs ≡ ys = rising-same xs ys (rises-tail x xs h) (rises-tail y ys g) fs bs in
    ap (λ (z : ℕ). z ∷ xs) e ∙ ap (λ (zs : List ℕ). y ∷ zs) t

key-part : (c d : Clause) (q p : List ℕ) → IsKey c q → IsKey d p → is_same c d ≡ true → (x : ℕ) → Contains q x → Contains p x
key-part c d q p h g s x w =
    let l = h.of x w in subst (Contains p) (sym l.2) (g.all l.0 (sym (is_same-at c d s l.0) ∙ l.1))

key-same : (c d : Clause) (q p : List ℕ) → IsKey c q → IsKey d p → is_same c d ≡ true → is_same d c ≡ true → q ≡ p
key-same c d q p h g s t =
    rising-same q p (AllPairs-from_increasing q h.rises) (AllPairs-from_increasing p g.rises) (key-part c d q p h g s) (key-part d c p q g h t)

half : (c d : Clause) (q : List ℕ) → IsKey c q → IsKey d q → (l : Lit) → has c l ≡ true → has d l ≡ true
half c d q h g l e =
    let w = g.of (code_of l) (h.all l e) in subst (λ (k : Lit). has d k ≡ true) (sym (code-same l w.0 w.2)) w.1

set-same : (c d : Clause) (q : List ℕ) → IsKey c q → IsKey d q → is_same c d ≡ true
set-same c d q h g = is_same-from c d (λ l. bool_iff _ _ (half c d q h g l) (half d c q g h l))

pointwise-true : (q p : List ℕ) → pointwise eqb q p ≡ true → q ≡ p
pointwise-true [] [] h = refl
pointwise-true [] (y ∷ ys) h = absurd (false≢true h)
pointwise-true (x ∷ xs) [] h = absurd (false≢true h)
pointwise-true (x ∷ xs) (y ∷ ys) h =
    let w = and_parts _ _ h in ap (λ (z : ℕ). z ∷ xs) (eqb-true _ _ w.0) ∙ ap (λ (zs : List ℕ). y ∷ zs) (pointwise-true xs ys w.1)

pointwise-refl : (q : List ℕ) → pointwise eqb q q ≡ true
pointwise-refl [] = refl
pointwise-refl (x ∷ xs) = and_from _ _ (eq-eqb x x refl) (pointwise-refl xs)

same-flip : (c d : Clause) → is_same c d ≡ true → is_same d c ≡ true
same-flip c d h = is_same-from d c (λ l. sym (is_same-at c d h l))

key-test : (c d : Clause) (q p : List ℕ) → IsKey c q → IsKey d p → pointwise eqb q p ≡ is_same c d
key-test c d q p h g =
    bool_iff (pointwise eqb q p) (is_same c d)
    (λ t. set-same c d q h (subst (IsKey d) (sym (pointwise-true q p t)) g))
    (λ s. subst (λ (x : List ℕ). pointwise eqb q x ≡ true) (key-same c d q p h g s (same-flip c d s)) (pointwise-refl q))

list_any-map : {V : Type 0} (f : V → List ℕ) (t : List ℕ → Bool) (ks : List V) → list_any t (map f ks) ≡ list_any (λ k. t (f k)) ks
list_any-map f t [] = refl
list_any-map f t (k ∷ ks) = ap (λ (b : Bool). t (f k) || b) (list_any-map f t ks)

or-swap : (a b : Bool) → (a || b) ≡ (b || a)
or-swap true true = refl
or-swap true false = refl
or-swap false true = refl
or-swap false false = refl

or-false : (b : Bool) → (b || false) ≡ b
or-false true = refl
or-false false = refl

or-known : (a b : Bool) → (b ≡ true → a ≡ true) → a ≡ (a || b)
or-known true b h = refl
or-known false true h = h refl
or-known false false h = refl

with-new : {V : Type 0} (f : V → List ℕ) (ks ns : List V) (v : V) (q : List ℕ) (added : Bool) → added ≡ not (list_any (λ k. pointwise eqb (f v) (f k)) ks) → MatchBool added (IsPermutation (v ∷ ks) ns) (ns ≡ ks)
    → list_any (pointwise eqb q) (map f ns) ≡ (list_any (pointwise eqb q) (map f ks) || pointwise eqb q (f v))
with-new f ks ns v q true e m =
    list_any-map f (pointwise eqb q) ns ∙ sym (list_any-IsPermutation (λ k. pointwise eqb q (f k)) (v ∷ ks) ns m)
    ∙ or-swap (pointwise eqb q (f v)) (list_any (λ k. pointwise eqb q (f k)) ks)
    ∙ ap (λ (b : Bool). b || pointwise eqb q (f v)) (sym (list_any-map f (pointwise eqb q) ks))
with-new f ks ns v q false e m =
    ap (λ (xs : List _). list_any (pointwise eqb q) (map f xs)) m
    ∙ or-known _ _ (λ t.
    let s : q ≡ f v = pointwise-true q (f v) t in
    list_any-map f (pointwise eqb q) ks ∙ subst (λ (x : List ℕ). list_any (λ k. pointwise eqb x (f k)) ks ≡ true) (sym s) (not-false _ (sym e)))

pub remembers-more : {V : Type 0} (f : V → List ℕ) (ks ns : List V) (v : V) (added : Bool) → added ≡ not (list_any (λ k. pointwise eqb (f v) (f k)) ks) → MatchBool added (IsPermutation (v ∷ ks) ns) (ns ≡ ks)
    → (c : Clause) → IsKey c (f v) → (cs : List Clause) → Remembers (map f ks) cs → (added ≡ not (list_any (is_same c) cs)) × Remembers (map f ns) (cs ++ c ∷ [])
remembers-more f ks ns v added e m c key cs r = (
  e ∙ ap not (sym (list_any-map f (pointwise eqb (f v)) ks) ∙ r c (f v) key),
  λ d q k.
      with-new f ks ns v q added e m
      ∙ ap (λ (b : Bool). b || pointwise eqb q (f v)) (r d q k)
      ∙ ap (λ (b : Bool). list_any (is_same d) cs || b) (key-test d c q (f v) k key ∙ sym (or-false (is_same d c)))
      ∙ sym (list_any-append (is_same d) cs (c ∷ [])),
)
