-- The numbers of an integer type, and conversion to it (C99 6.2.5, 6.3.1.2 and 6.3.1.3).
use Rattle.std.specs.Prelude.{zero, suc, ◌-◌, ◌^◌, Bool, true, false, if◌then◌else◌}
use Rattle.std.specs.Prelude.{ℤ, pos, negsuc, neg_ℤ, ◌-ℤ◌, ◌≤ℤ◌, int_le, ◌&&◌}
use Rattle.bits_core.specs.Word.{number, modulo}
use Rattle.joint_ir.specs.declared.ctype.IntType.{IntType}

-- the type `int`
abbrev pub int : IntType
int = record { bits = 32; signed = true; truth = false }

-- the least number of a type
abbrev pub lowest : IntType → ℤ
lowest t = if t.signed then neg_ℤ (pos (2 ^ (t.bits - 1))) else pos 0

-- the greatest number of a type
abbrev pub highest : IntType → ℤ
highest t = (if t.signed then pos (2 ^ (t.bits - 1)) else pos (2 ^ t.bits)) -ℤ pos 1

-- whether a number is in the range of a type
abbrev pub in_range : IntType → ℤ → Bool
in_range t n = int_le (lowest t) n && int_le n (highest t)

-- a number is in the range of a type
pub record InRange (t : IntType) (n : ℤ) : Type 0 where
  pub low : lowest t ≤ℤ n
  pub high : n ≤ℤ highest t

-- 1 for what isn't 0
abbrev pub truth_of : ℤ → ℤ
truth_of (pos zero) = pos 0
truth_of (pos (suc n)) = pos 1
truth_of (negsuc n) = pos 1

-- the number of a type's range that equals a number modulo 2^bits; for `_Bool`, 1 for what isn't 0
abbrev pub converted : IntType → ℤ → ℤ
converted t n = if t.truth then truth_of n else number t.signed t.bits (modulo t.bits n)

-- a type of 1, 8, 16, 32 or 64 bits; `_Bool` is the one of 1 bit, and has no sign
pub data IsType : IntType → Type 0 where
  Truth : IsType (record { bits = 1; signed = false; truth = true })
  Byte : (signed : Bool) → IsType (record { bits = 8; signed = signed; truth = false })
  Half : (signed : Bool) → IsType (record { bits = 16; signed = signed; truth = false })
  Single : (signed : Bool) → IsType (record { bits = 32; signed = signed; truth = false })
  Double : (signed : Bool) → IsType (record { bits = 64; signed = signed; truth = false })
