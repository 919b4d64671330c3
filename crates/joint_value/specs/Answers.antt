-- What the functions that evaluate say.
use Rattle.std.specs.Prelude.{◌≡◌, Bool, true, false, Option, IsSome, ◌<◌, ◌≤◌, ℤ, pos, neg_ℤ, ◌≤ℤ◌, ◌<ℤ◌, unsigned_abs, int_lt, int_le, not, Result, Ok, Err}
use Rattle.std.specs.Ordering.{int_eq}
use Rattle.joint_ir.specs.declared.ctype.IntType.{IntType}
use Rattle.joint_ir.specs.declared.expr.BinaryOp.{BinaryOp}
use Rattle.joint_ir.specs.declared.expr.BinaryOp.TheVariants.{Add, Sub, Mul, Div, Rem, Shl, Shr, And, Or, Xor, Eq, Ne, Lt, Le, Gt, Ge}
use Rattle.joint_ir.specs.declared.program.PropId.{PropId}
use Rattle.joint_ir.specs.Values.{Answer, Value, Fault}

-- the number that an expression gave, or the property that broke
abbrev pub answer_of : Result ℤ PropId → Answer
answer_of (Ok n) = Value n
answer_of (Err p) = Fault p

-- a type of 1 to 64 bits
pub record HasWidth (t : IntType) : Type 0 where
  pub some : 0 < t.bits
  pub few : t.bits ≤ 64

-- a number from -2^64 to 2^64
pub record IsSmall (n : ℤ) : Type 0 where
  pub low : neg_ℤ (pos 18446744073709551616) ≤ℤ n
  pub high : n ≤ℤ pos 18446744073709551616

-- numbers that a type of at most 64 bits may multiply
pub record AreFactors (t : IntType) (x y : ℤ) : Type 0 where
  pub truth : t.truth ≡ false
  pub signed_x : t.signed ≡ true → unsigned_abs x ≤ 9223372036854775808
  pub signed_y : t.signed ≡ true → unsigned_abs y ≤ 9223372036854775808
  pub low_x : t.signed ≡ false → pos 0 ≤ℤ x
  pub high_x : t.signed ≡ false → x <ℤ pos 18446744073709551616
  pub low_y : t.signed ≡ false → pos 0 ≤ℤ y
  pub high_y : t.signed ≡ false → y <ℤ pos 18446744073709551616

-- what an operator needs: numbers that may be multiplied, and a property for each check that may fail
abbrev pub CanOperate : BinaryOp → IntType → (division other : Option PropId) → (x y : ℤ) → Type 0
CanOperate Add t d p x y = Unit {0}
CanOperate Sub t d p x y = Unit {0}
CanOperate Mul t d p x y = AreFactors t x y
CanOperate Div t d p x y = IsSome d
CanOperate Rem t d p x y = IsSome d
CanOperate Shl t d p x y = IsSome p × (t.signed ≡ false → pos 0 ≤ℤ x) × (x <ℤ pos 18446744073709551616)
CanOperate Shr t d p x y = IsSome p
CanOperate And t d p x y = Unit {0}
CanOperate Or t d p x y = Unit {0}
CanOperate Xor t d p x y = Unit {0}
CanOperate Eq t d p x y = Unit {0}
CanOperate Ne t d p x y = Unit {0}
CanOperate Lt t d p x y = Unit {0}
CanOperate Le t d p x y = Unit {0}
CanOperate Gt t d p x y = Unit {0}
CanOperate Ge t d p x y = Unit {0}

-- what a comparison tells
abbrev pub comparison : BinaryOp → ℤ → ℤ → Bool
comparison Eq x y = int_eq x y
comparison Ne x y = not (int_eq x y)
comparison Lt x y = int_lt x y
comparison Le x y = int_le x y
comparison Gt x y = int_lt y x
comparison Ge x y = int_le y x
comparison _ x y = false
