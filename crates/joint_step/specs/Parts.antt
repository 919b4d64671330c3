-- What a function takes, where a loop's turn goes on, and which statements have no others in them.
use Rattle.std.specs.Prelude.{◌≡◌, ℕ, zero, suc, ℤ, List, Option, Some, None, Bool, true, false, slice_get, length}
use Rattle.joint_ir.specs.declared.program.CProgram.{CProgram}
use Rattle.joint_ir.specs.declared.program.Function.{Function}
use Rattle.joint_ir.specs.declared.stmt.SNode.{SNode, Update, Break, Continue, Assert, Assume, SetInputs, NextFrame}
use Rattle.joint_ir.specs.Effects.{Effect, with_value}
use Rattle.joint_ir.specs.Values.{Answer, is_zero}
use Rattle.joint_machine.specs.Moments.{AreParams}
use Rattle.joint_ir.specs.declared.way.Way.{Way}
use Rattle.joint_ir.specs.declared.way.Way.TheVariants as way

-- numbers that a function takes, if it is there
pub record Takes (p : CProgram) (fn : Function) (args : List ℤ) : Type 0 where
  pub count : length args ≡ fn.params
  pub typed : AreParams p fn.first args

-- if there is such a function, these numbers are right for its parameters
abbrev pub IsTaken : CProgram → (function : ℕ) → List ℤ → Type 0
IsTaken p f args = (fn : Function) → slice_get p.functions f ≡ Some fn → Takes p fn args

-- which way a loop goes on behind a turn that leaves it
abbrev pub turn_left : Way → Option Way
turn_left way.Next = None
turn_left way.Breaking = Some way.Next
turn_left way.Continuing = None
turn_left way.Returning = Some way.Returning

-- which way a list goes on behind a statement that leaves it
abbrev pub other_way : Way → Option Way
other_way way.Next = None
other_way way.Breaking = Some way.Breaking
other_way way.Continuing = Some way.Continuing
other_way way.Returning = Some way.Returning

-- statements with no statement and no call in them
abbrev pub is_plain : SNode → Bool
is_plain (Update target u) = true
is_plain Break = true
is_plain Continue = true
is_plain (Assert e prop) = true
is_plain (Assume e) = true
is_plain SetInputs = true
is_plain (NextFrame prop) = true
is_plain _ = false

-- a test of a loop before its first turn, where it makes one: whether the loop stops
abbrev pub first_tested : Bool → Answer → List ℕ → (Bool → Effect) → Effect
first_tested true a c go = with_value a c (λ n. go (is_zero n))
first_tested false a c go = go false

-- one more activation may stand, where as many more may at all
abbrev pub may_stand : (left : ℕ) → Bool → Bool
may_stand zero below = false
may_stand (suc left) below = below
