-- What the unwinding of a loop's parts promises (C99 6.8.5).
use Rattle.std.specs.Prelude.{◌≡◌, ℕ, Bool, true, false, List, Option, Some, None, IsTrue}
use Rattle.word_eqs.specs.declared.list.Act.TheVariants.{Prop}
use Rattle.joint_ir.specs.declared.expr.TExpr.{TExpr}
use Rattle.joint_ir.specs.declared.program.PropId.{PropId}
use Rattle.joint_ir.specs.declared.stmt.TLoop.{TLoop, out-TLoop}
use Rattle.joint_ir.specs.declared.stmt.TStmt.{TStmt}
use Rattle.joint_ir.specs.declared.way.Way.{Way}
use Rattle.joint_ir.specs.declared.way.Way.TheVariants.{Next, Breaking, Continuing, Returning}
use Rattle.joint_ir.specs.Effects.{Onward, nothing, Goes, then_do, after_turn}
use Rattle.joint_ir.specs.States.{JointState}
use Rattle.joint_ir.specs.Statements.{after, condition_value, tested, turns}
use Rattle.joint_ir.specs.Steps.{rows_in, limit_of}
use Rattle.joint_ir.specs.Values.{Answer}
use Rattle.joint_ir.specs.WellFormed.{Scope, FitsStmt, FitsOption, is_simple}
use Rattle.joint_lists.specs.Lists.{after_option}
use Rattle.sized_terms.specs.declared.SizedTerm.{SizedTerm}
use Rattle.sized_terms.specs.Sized.{IsMade}
use Rattle.unrolled.specs.declared.Unrolled.{Unrolled}
use Rattle.unwind_state.specs.declared.state.Flow.{Flow}
use Rattle.unwind_state.specs.declared.state.Guard.{Guard}
use Rattle.unwind_state.specs.declared.state.Guard.TheVariants.{Never}
use Rattle.unwind_state.specs.declared.state.State.{State}
use Rattle.unwind_state.specs.Guards.{IsFlow, bits_of, gathered_of}
use Rattle.unwind_state.specs.Unwinding.{IsPushed}
use Rattle.unwind_simple.specs.declared.simple.Activation.{Activation}
use Rattle.unwind_simple.specs.Simple.{calls_in, setting_of}
use Rattle.unwind_blocks.specs.Blocks.{IsStretch, state_at, behind_at}

-- how a run goes on behind a part of a loop: with what is left of the loop, or behind it
abbrev pub turn_out : Onward → Way → Onward
turn_out go Next s c = go s c
turn_out go Breaking s c = Goes Next s nothing c
turn_out go Continuing s c = Goes Next s nothing c
turn_out go Returning s c = Goes Returning s nothing c

-- a part of a loop was unwound, whatever is left of the loop behind it
abbrev pub IsPart : (a : Activation) (n0 n1 : Unrolled) (s0 s1 : State) (g : Guard) (f : Flow) (visible : List ℕ) (run : Onward → Onward) → Type 0
IsPart a n0 n1 s0 s1 g f visible run = (go : Onward) → IsStretch a n0 n1 s0 s1 g f (state_at a visible) (behind_at a visible) (run go) (turn_out go)

-- the value of a loop's condition
abbrev pub test_in : Activation → Option TExpr → JointState → Answer
test_in a cond s = condition_value (rows_in (setting_of a) s) cond

-- the beginning of a loop: `do` alone makes its first turn without a test
abbrev pub first_part : (tests_first : Bool) → (JointState → Answer) → Onward → Onward
first_part true test go = tested test go
first_part false test go = go

-- a turn of a loop: its body, the last part of a `for`, and the test of the next turn
abbrev pub turn_of : Activation → TLoop → Onward → Onward
turn_of a l go s c =
    after_turn (after (setting_of a) (calls_in a) (out-TLoop l).body.place (out-TLoop l).body.node s c)
    (λ s' c'. then_do (after_option (setting_of a) (calls_in a) (out-TLoop l).step s' c') (tested (test_in a (out-TLoop l).cond) go))

-- so many turns of a loop
abbrev pub turns_in : Activation → TLoop → ℕ → Onward
turns_in a l n =
    turns n (test_in a (out-TLoop l).cond) (after (setting_of a) (calls_in a) (out-TLoop l).body.place (out-TLoop l).body.node)
    (after_option (setting_of a) (calls_in a) (out-TLoop l).step) (out-TLoop l).unwind

-- a loop behind its heads
abbrev pub loop_in : Activation → TLoop → Onward
loop_in a l = first_part (out-TLoop l).tests_first (test_in a (out-TLoop l).cond) (turns_in a l (limit_of a.bounds.now (out-TLoop l).unwind))

-- the last part of a `for`, if there is one
abbrev pub FitsLast : Scope → Option TStmt → Type 0
FitsLast c None = Unit {0}
FitsLast c (Some x) = IsTrue (is_simple x.node) × FitsStmt c x.node

-- the parts of a loop that each turn carries out
pub record FitsTurn (c : Scope) (l : TLoop) : Type 0 where
  pub body : FitsStmt c (out-TLoop l).body.node
  pub last : FitsLast c (out-TLoop l).step
  pub cond : FitsOption c (out-TLoop l).cond

-- the guards of the ways that left a loop
abbrev pub left_of : Flow → Flow
left_of ways = record { next = Never; breaking = ways.breaking; continuing = ways.continuing; returning = ways.returning }

-- behind the last turn: a property breaks where the loop would go on, and what left it goes on behind it
pub record IsEnded (n0 n3 : Unrolled) (ways f : Flow) (p : PropId) : Type 0 where
  pub n1 : Unrolled
  pub n2 : Unrolled
  pub unset : SizedTerm
  pub made : IsMade n0.terms n1.terms 1 0 1 unset (λ v. 0)
  pub list : n1.list ≡ n0.list
  pub pushed : IsPushed n1 n2 ways.next (Prop p.0 unset.term)
  pub flow : IsFlow n2 n3 f (λ v. gathered_of (bits_of v (left_of ways)))
