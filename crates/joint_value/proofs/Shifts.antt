-- A number below 2^64, shifted by less than 64.
use Rattle.std.proofs.Common.{◌≡◌, ℕ, ◌≤◌, ◌<◌, ◌^◌, ◌*ℤ◌, pos, ℤ, sym, subst, arith, lit<}
use Rattle.std.proofs.Math.Nat.{pow-le-pow_right}
use Rattle.std.specs.Prelude.{unsigned_abs, ◌≤ℤ◌, ◌<ℤ◌}
use Rattle.std.proofs.lemmas.Int.{ints, fits_signed_mul}
use mir.Val.{SFits}
use mir.Syntax.{w128}

pub shift_fits : (x p : ℤ) (y : ℕ) → pos 0 ≤ℤ x → x <ℤ pos 18446744073709551616 → y < 64 → p ≡ pos (2 ^ y) → SFits w128 (x *ℤ p)
shift_fits x p y low high lt e =
    let h : y ≤ 63 = omega arith in
    let le : 2 ^ y ≤ 2 ^ 63 = pow-le-pow_right {n = 2} (lit< tt) h in
    let bx : unsigned_abs x ≤ 18446744073709551615 = omega (arith, ints) in
    subst (λ q. SFits w128 (x *ℤ q)) (sym e) (fits_signed_mul w128 x (pos (2 ^ y)) 18446744073709551615 9223372036854775808 bx le (lit< tt))
