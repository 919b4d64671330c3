-- That each literal stands once in a list, place by place.
use Rattle.std.proofs.Common.{◌≡◌, ℕ, suc, zero, ◌<◌, Bool, true, false, ◌||◌, [], ◌∷◌, length, drop, get_or, refl, ap, ◌∙◌, arith}
use Rattle.std.specs.List.{IsDistinct, AllByRecursion}
use Rattle.clause_arena.specs.declared.Lit.{Lit}
use Rattle.clause_arena.specs.Clause.{Clause, lit_eq, has, IsEachOnce}

or-false : (a b : Bool) → (a || b) ≡ false → (a ≡ false) × (b ≡ false)
or-false true b h = absurd (apart h)
  where
    apart : true ≡ false → ⊥
    apart e = cc
or-false false b h = (refl, h)

none_from_all : (x : Lit) (c : Clause) → AllByRecursion (λ y. lit_eq x y ≡ false) c → has c x ≡ false
none_from_all x [] h = refl
none_from_all x (y ∷ ys) h = ap (λ (b : Bool). b || has ys x) h.0 ∙ none_from_all x ys h.1

all_from_none : (x : Lit) (c : Clause) → has c x ≡ false → AllByRecursion (λ y. lit_eq x y ≡ false) c
all_from_none x [] h = tt
all_from_none x (y ∷ ys) h = let w = or-false (lit_eq x y) (has ys x) h in (w.0, all_from_none x ys w.1)

pub once-at : (c : Clause) (i : ℕ) (d : Lit) → IsEachOnce c → i < length c → has (drop (suc i) c) (get_or c i d) ≡ false
unfolding IsDistinct
once-at [] i d h l = absurd (omega arith)
once-at (x ∷ xs) zero d h l = none_from_all x xs h.0
once-at (x ∷ xs) (suc i) d h l = once-at xs i d h.1 (omega arith)

pub once-from : (c : Clause) → ((i : ℕ) (d : Lit) → i < length c → has (drop (suc i) c) (get_or c i d) ≡ false) → IsEachOnce c
unfolding IsDistinct
once-from [] h = tt
once-from (x ∷ xs) h = (all_from_none x xs (h zero x (omega arith)), once-from xs (λ i d l. h (suc i) d (omega arith)))
