-- Numbers some of whose bits are others.
use Rattle.std.specs.Prelude.{ℕ, ◌+◌, ◌-◌, ◌*◌, ◌/◌, ◌%◌, ◌^◌}
use Rattle.bits_core.specs.Word.{at_zero}

-- n bits with the bits of a number of w bits above a place on their left
abbrev pub upper : (w high n a p : ℕ) → ℕ
upper w high n a p = a / 2 ^ (high + 1) % 2 ^ (w - 1 - high) * 2 ^ n + p

-- a number with the bits of another below a place on its right
abbrev pub lower : (low a p : ℕ) → ℕ
lower low a p = p * 2 ^ low + a % 2 ^ low

-- a number of w bits whose bits from a high one down to a low one are those of another
abbrev pub mixed : (w high low a p : ℕ) → ℕ
mixed w high low a p = lower low a (upper w high (high - low + 1) a p)

-- the same where a guard isn't 0
abbrev pub changed : (w high low guard a m : ℕ) → ℕ
changed w high low guard a m = mixed w high low a (at_zero guard (a / 2 ^ low % 2 ^ (high - low + 1)) m)
