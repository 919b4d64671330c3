-- Operators that are well-formed in some program, and the operation that compares by a type's sign.
use Rattle.std.specs.Prelude.{Bool, true, false, Option}
use Rattle.bits_core.specs.declared.op.Op2.{Op2}
use Rattle.bits_core.specs.declared.op.Op2.TheVariants.{LtS, LtU}
use Rattle.joint_ir.specs.declared.ctype.IntType.{IntType}
use Rattle.joint_ir.specs.declared.expr.BinaryOp.{BinaryOp}
use Rattle.joint_ir.specs.declared.expr.UnaryOp.{UnaryOp}
use Rattle.joint_ir.specs.declared.program.CProgram.{CProgram}
use Rattle.joint_ir.specs.declared.program.PropId.{PropId}
use Rattle.joint_ir.specs.WellFormed.{FitsUnary, FitsBinary}

-- a unary operator of type t over an operand of type u, with its property
pub record IsUnary (op : UnaryOp) (t u : IntType) (other : Option PropId) : Type 0 where
  pub program : CProgram
  pub fits : FitsUnary program op t u other

-- a binary operator of type t over operands of types u and v, with its properties
pub record IsBinary (op : BinaryOp) (t u v : IntType) (division other : Option PropId) : Type 0 where
  pub program : CProgram
  pub fits : FitsBinary program op t u v division other

-- the comparison of words with or without sign
abbrev pub less_op_of : Bool → Op2
less_op_of true = LtS
less_op_of false = LtU
