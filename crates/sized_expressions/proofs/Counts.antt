-- How many terms, sites and variables there are.
use Rattle.std.proofs.Common.{◌≡◌, ℕ, ◌+◌, ◌-◌, ◌*◌, ◌≤◌, [], ◌∷◌, Bool, true, false, length, refl, ap, arith}
use Rattle.std.specs.Prelude.{nat_lt, if◌then◌else◌}
use Rattle.flat_tree.specs.declared.expr.PlacedSite.{PlacedSite}
use Rattle.flat_tree.specs.Operators.{Form}
use Rattle.flat_tree.specs.Values.{site_at, numbers_of}
use Rattle.operand_contexts.specs.Contexts.{has_site}
use Rattle.sized_expressions.specs.Operated.{own_site}
use Rattle.row_terms.specs.Rows.{most_terms}
use Rattle.src_text.specs.declared.refusal.Place.{Place}

pub most_leaf : (w n k : ℕ) → 4 ≤ w → 1 ≤ n → k ≤ 31 → k ≤ most_terms w n
most_leaf w n k a b c = omega arith

pub most_one : (a x w n k : ℕ) → a + 4 ≤ w → x + 1 ≤ n → k ≤ 31 → most_terms a x + k ≤ most_terms w n
most_one a x w n k p q c = omega arith

pub most_two : (a b x y w n k : ℕ) → a + b + 4 ≤ w → x + y + 1 ≤ n → k ≤ 31 → most_terms a x + most_terms b y + k ≤ most_terms w n
most_two a b x y w n k p q c = omega arith

pub most_three : (a b c x y z w n k : ℕ) → a + b + c + 4 ≤ w → x + y + z + 1 ≤ n → k ≤ 31 → most_terms a x + most_terms b y + most_terms c z + k ≤ most_terms w n
most_three a b c x y z w n k p q e = omega arith

pub most_nodes : (w n : ℕ) → most_terms w n ≤ 32 * n
most_nodes w n = omega arith

pub most_same : (w n m : ℕ) → n ≤ m → most_terms w n ≤ most_terms w m
most_same w n m e = omega arith

-- how many variables a site takes
pub site_length : (p : Place) (w : ℕ) → length (site_at p w) ≡ numbers_of w
site_length p w = pick (nat_lt 64 w)
  where
    pick : (c : Bool) → length {A = PlacedSite} (if c then (record { place = p; bits = 64 }) ∷ (record { place = p; bits = w - 64 }) ∷ [] else (record { place = p; bits = w }) ∷ []) ≡ (if c then 2 else 1)
    pick true = refl
    pick false = refl

pub some_numbers : (w : ℕ) → 1 ≤ numbers_of w
some_numbers w = pick (nat_lt 64 w)
  where
    pick : (c : Bool) → 1 ≤ (if c then 2 else 1)
    pick true = omega arith
    pick false = omega arith

-- the number behind those of an operator's site
abbrev pub behind : Form → ℕ → ℕ → ℕ
behind f w n = if has_site f then n + numbers_of w else n

pub behind_is : (f : Form) (p : Place) (w n : ℕ) → n + length (own_site f p w) ≡ behind f w n
behind_is f p w n = pick (has_site f)
  where
    pick : (c : Bool) → n + length (if c then site_at p w else []) ≡ (if c then n + numbers_of w else n)
    pick true = ap (λ k. n + k) (site_length p w)
    pick false = omega arith

pub next_number : (n reads m k : ℕ) → reads ≤ n → m ≡ n + k → m - reads ≡ n - reads + k
next_number n reads m k le e = omega (arith, le, e)

pub room_one : (before after w k n most : ℕ) → after ≤ before + most_terms w k → n ≡ 1 + k → before + 32 * n ≤ most → after + 32 ≤ most
room_one before after w k n most p e r = let b = most_nodes w k in omega (arith, p, e, r, b)
