-- What stands right before a body and right behind it.
use Rattle.std.specs.Prelude.{◌≡◌, ℕ, eqb, List, [], ◌∷◌, ◌++◌}
use Rattle.joint_ir.specs.declared.program.Function.{Function}
use Rattle.joint_ir.specs.declared.stmt.TStmt.{TStmt}
use Rattle.joint_ir.specs.Steps.{type_or_int}
use Rattle.joint_lists.specs.Own.{own_end}
use Rattle.sized_terms.specs.declared.SizedTerm.{SizedTerm}
use Rattle.unrolled.specs.declared.Objects.{Objects}
use Rattle.unrolled.specs.declared.Unrolled.{Unrolled}
use Rattle.unwind_state.specs.declared.state.Flow.{Flow}
use Rattle.unwind_state.specs.declared.state.Guard.{Guard}
use Rattle.unwind_state.specs.declared.state.State.{State}
use Rattle.unwind_simple.specs.declared.simple.Activation.{Activation}
use Rattle.unwind_calls.specs.declared.bodies.Caller.{Caller}
use Rattle.unwind_calls.specs.Arguments.{AreSet}
use Rattle.unwind_calls.specs.Calls.{IsNought, IsClosing}
use Rattle.unwind_calls.specs.Rows.{rows_part, rows_back}

-- a state with other objects and another result
abbrev pub begun_state : State → Objects → SizedTerm → State
begun_state s o x = record { objects = o; registers = s.registers; inputs = s.inputs; unknown = s.unknown; wires = s.wires; edges = s.edges; result = x }

-- a body begins: what is kept of the caller, the parameters that took the arguments, and a result that is 0
pub record HasBegun (a : Activation) (n0 n1 : Unrolled) (s0 s1 : State) (function : ℕ) (fn : Function) (body : TStmt) (ts : List SizedTerm) (g : Guard) (c : Caller) : Type 0 where
  pub mid : Unrolled
  pub set : AreSet a.pair.now n0 mid s0.objects s1.objects fn.first ts g
  pub nought : IsNought mid n1 (type_or_int fn.result) s1.result
  pub state : s1 ≡ begun_state s0 s1.objects s1.result
  pub rows : c.rows.items ≡ rows_part fn.first (own_end fn body) s0.objects.locals.items
  pub result : c.result ≡ s0.result
  pub standing : c.standing.items ≡ a.standing.now ++ function ∷ []

-- behind a body: the caller's rows and its result are back, and the closing brace is made
pub record HasLeft (a : Activation) (n0 n1 : Unrolled) (s0 s1 : State) (function : ℕ) (fn : Function) (c : Caller) (ways : Flow) (t : SizedTerm) : Type 0 where
  pub closing : IsClosing n0 n1 (eqb function a.pair.now.program.main) fn.result ways s0.result t
  pub globals : s1.objects.globals.items ≡ s0.objects.globals.items
  pub locals : s1.objects.locals.items ≡ rows_back fn.first c.rows.items s0.objects.locals.items
  pub members : s1.objects.members.items ≡ s0.objects.members.items
  pub registers : s1.registers ≡ s0.registers
  pub inputs : s1.inputs ≡ s0.inputs
  pub unknown : s1.unknown ≡ s0.unknown
  pub wires : s1.wires ≡ s0.wires
  pub edges : s1.edges ≡ s0.edges
  pub result : s1.result ≡ c.result
