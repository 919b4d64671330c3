-- When a quotient is in the range of its type, and what a division answers.
use Rattle.std.specs.Prelude.{ℕ, ◌-◌, ◌^◌, Bool, not, ◌&&◌, nat_eq, nat_lt, Option}
use Rattle.joint_ir.specs.declared.program.PropId.{PropId}
use Rattle.joint_ir.specs.Values.{Answer, checked}

-- a quotient of two words read with a sign is in range unless the least number is divided by -1
abbrev pub quotient_fits : (w x y : ℕ) → Bool
quotient_fits w x y = not (nat_eq x (2 ^ (w - 1)) && nat_eq y (2 ^ w - 1))

-- an answer behind a check that the divisor y isn't 0, and one that the quotient is in range
abbrev pub divided : (d p : Option PropId) → (w x y : ℕ) → Answer → Answer
divided d p w x y a = checked d (nat_lt 0 y) (checked p (quotient_fits w x y) a)
