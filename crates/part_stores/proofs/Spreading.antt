-- Numbers spread over places, one list of them after the other.
use Rattle.std.proofs.Common.{◌≡◌, ℕ, zero, suc, ◌+◌, ◌/◌, ◌%◌, ◌^◌, ◌≤◌, List, [], ◌∷◌, ◌++◌, length, refl, sym, ap, ◌∙◌, arith, length-append}
use Rattle.std.specs.Prelude.{Option, Some, None}
use Rattle.v_views.specs.Spots.{Spot, BitWrite, bit_of, spread}
use Rattle.v_views.proofs.Bits.{bit_mod}
use Rattle.view_rows.proofs.Bits.{bit_shift}

-- the leftmost places take the highest bits
pub spread_append : (a b : List (Option Spot)) (n : ℕ) → spread (a ++ b) n ≡ spread a (n / 2 ^ length b) ++ spread b n
spread_append [] b n = refl
spread_append (None ∷ a) b n = spread_append a b n
spread_append (Some x ∷ a) b n =
    let k : length (a ++ b) ≡ length b + length a = let l = length-append a b in omega (arith, l) in
    let bit : bit_of n (length (a ++ b)) ≡ bit_of (n / 2 ^ length b) (length a) = ap (bit_of n) k ∙ bit_shift (length b) (length a) n in
    ap (λ c. record { spot = x; value = c } ∷ spread (a ++ b) n) bit ∙ ap (λ l. record { spot = x; value = bit_of (n / 2 ^ length b) (length a) } ∷ l) (spread_append a b n)

-- what is above the places is cut off
pub spread_mod : (a : List (Option Spot)) (w n : ℕ) → length a ≤ w → spread a (n % 2 ^ w) ≡ spread a n
spread_mod [] w n le = refl
spread_mod (None ∷ a) w n le = spread_mod a w n (omega arith)
spread_mod (Some x ∷ a) w n le =
    ap (λ c. record { spot = x; value = c } ∷ spread a (n % 2 ^ w)) (bit_mod (length a) w n (omega arith))
    ∙ ap (λ l. record { spot = x; value = bit_of n (length a) } ∷ l) (spread_mod a w n (omega arith))
