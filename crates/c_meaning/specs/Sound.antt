-- When what names mean fits a program.
use Rattle.std.specs.Prelude.{◌≡◌, ℕ, ◌<◌, List, slice_get, Some}
use Rattle.c_tree.specs.declared.expressions.Expression.{Expression}
use Rattle.c_tree.specs.declared.expressions.Expression as expression
use Rattle.c_tree.specs.declared.expressions.Path.{Path}
use Rattle.c_tree.specs.declared.expressions.Path as path
use Rattle.joint_ir.specs.declared.program.CProgram.{CProgram}
use Rattle.joint_ir.specs.declared.program.Prop.{Prop}
use Rattle.joint_ir.specs.Types.{IsType}
use Rattle.joint_ir.specs.Steps.{slot_type}
use Rattle.joint_ir.specs.Weights.{slot_length}
use Rattle.joint_ir.specs.WellFormed as well
use Rattle.c_words.specs.declared.notes.Site.{Site}
use Rattle.c_names.specs.declared.scope.Entry.TheVariants as entry
use Rattle.c_names.specs.declared.scope.Target.{Target}
use Rattle.c_names.specs.Scope.{Scope, lookup}

-- an object is there and visible, and has its type and its length
pub record IsThere (c : well.Scope) (o : Target) : Type 0 where
  pub visible : well.IsVisible c o.slot
  pub ty : o.ty ≡ slot_type c.program o.slot
  pub length : slot_length c.program o.slot ≡ o.length
  pub type : IsType o.ty

-- each name that stands for an object, stands for one that is there
abbrev pub AreThere : well.Scope → List Scope → Type 0
AreThere c env = (name : List ℕ) (o : Target) → lookup env name ≡ Some (entry.Object o) → IsThere c o

-- each place at which a property stands has its property in the program
abbrev pub AreProps : List Site → CProgram → Type 0
AreProps all p = (i : ℕ) (s : Site) → slice_get all i ≡ Some s → (x : Prop) × (slice_get p.props i ≡ Some x) × (x.kind ≡ s.kind)

-- each character is a byte
abbrev mutual
  -- in the index of a path
  pub PathBytes : Path → Type 0
  PathBytes (path.Object o) = Unit {0}
  PathBytes (path.Element' o p _ (path.more_of-Expression e _)) = AreBytes e

  -- in an expression
  pub AreBytes : Expression → Type 0
  AreBytes (expression.Integer p spelled) = Unit {0}
  AreBytes (expression.Character p value) = value < 256
  AreBytes (expression.True p) = Unit {0}
  AreBytes (expression.False p) = Unit {0}
  AreBytes (expression.Read x) = PathBytes x
  AreBytes (expression.Parentheses' p _ (expression.more_of-Expression e _)) = AreBytes e
  AreBytes (expression.Unary' mark _ (expression.more_of-Expression e _)) = AreBytes e
  AreBytes (expression.Cast' p ty _ (expression.more_of-Expression e _)) = AreBytes e
  AreBytes (expression.Binary' _ (expression.more_of-Expression left _) mark _ (expression.more_of-Expression right _)) = AreBytes left × AreBytes right
  AreBytes (expression.Conditional' _ (expression.more_of-Expression condition _) p _ (expression.more_of-Expression first _) _ (expression.more_of-Expression second _)) =
      AreBytes condition × AreBytes first × AreBytes second
