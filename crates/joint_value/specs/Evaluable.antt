-- Which expressions have a value: those that are well-formed, over objects that hold numbers of their types.
use Rattle.std.specs.Prelude.{◌≡◌, ℕ, length, All}
use Rattle.joint_ir.specs.declared.expr.Slot.{Slot}
use Rattle.joint_ir.specs.declared.expr.Slot.TheVariants.{Global, Local, Member}
use Rattle.joint_ir.specs.declared.expr.TExpr.{TExpr}
use Rattle.joint_ir.specs.declared.program.CProgram.{CProgram}
use Rattle.joint_ir.specs.Types.{InRange, IsType}
use Rattle.joint_ir.specs.Values.{Rows}
use Rattle.joint_ir.specs.States.{Store, row_at}
use Rattle.joint_ir.specs.Steps.{slot_type}
use Rattle.joint_ir.specs.WellFormed.{Scope, FitsExpr}

-- each object of a program has a type, and holds numbers of it
pub record HoldsTypes (p : CProgram) (rows : Rows) : Type 0 where
  pub types : (slot : Slot) → IsType (slot_type p slot)
  pub values : (slot : Slot) → All (InRange (slot_type p slot)) (rows slot)

-- each row of a store holds numbers of its object's type, and there is one for each local
pub record KeepsTypes (p : CProgram) (s : Store) : Type 0 where
  pub count : length s.locals ≡ length p.locals
  pub globals : (i : ℕ) → All (InRange (slot_type p (Global i))) (row_at s.globals i)
  pub locals : (i : ℕ) → All (InRange (slot_type p (Local i))) (row_at s.locals i)
  pub members : (i : ℕ) → All (InRange (slot_type p (Member i))) (row_at s.members i)

-- an expression is well-formed where it stands, and the objects of its program hold numbers of their types
pub record IsEvaluable (rows : Rows) (e : TExpr) : Type 0 where
  pub scope : Scope
  pub fits : FitsExpr scope e
  pub held : HoldsTypes scope.program rows
