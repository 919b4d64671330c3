-- What the unwinding of a switch promises (C99 6.8.4.2).
use Rattle.std.specs.Prelude.{ℕ, List, Option, drop}
use Rattle.joint_ir.specs.declared.ctype.IntType.{IntType}
use Rattle.joint_ir.specs.declared.stmt.Group.{Group}
use Rattle.joint_ir.specs.Effects.{Onward}
use Rattle.joint_ir.specs.Statements.{at_entry}
use Rattle.joint_lists.specs.Lists.{after_cases, entered_case}
use Rattle.sized_terms.specs.declared.SizedTerm.{SizedTerm}
use Rattle.trails.specs.Following.{goes}
use Rattle.unrolled.specs.declared.Unrolled.{Unrolled}
use Rattle.unwind_state.specs.declared.state.Flow.{Flow}
use Rattle.unwind_state.specs.declared.state.Guard.{Guard}
use Rattle.unwind_state.specs.declared.state.State.{State}
use Rattle.unwind_state.specs.Guards.{HasFlow}
use Rattle.unwind_state.specs.Images.{IsSettled}
use Rattle.unwind_state.specs.Unwinding.{Grows, Unwinds}
use Rattle.unwind_state.specs.Writing.{HasObjects, HasResult}
use Rattle.unwind_simple.specs.declared.simple.Activation.{Activation}
use Rattle.unwind_simple.specs.Simple.{calls_in, result_in, setting_of}
use Rattle.switch_guards.specs.Entries.{number_of}
use Rattle.unwind_blocks.specs.Blocks.{state_at, behind_at}

-- the groups of a switch, where control enters at a place
abbrev pub cases_at : Activation → List Group → Option ℕ → Onward
cases_at a groups place = at_entry place (λ i. after_cases (setting_of a) (calls_in a) (drop i groups))

-- the groups of a switch over a value were unwound: each valuation enters where its value says
pub record AreCases (a : Activation) (n0 n1 : Unrolled) (s0 s1 : State) (g : Guard) (f : Flow) (visible : List ℕ) (ty : IntType) (value : SizedTerm) (groups : List Group) : Type 0 where
  pub grows : Grows n0.terms n1.terms
  pub objects : HasObjects a.pair.now.program n1.terms s1.objects
  pub result : HasResult (result_in a) n0.terms s0.result → HasResult (result_in a) n1.terms s1.result
  pub flow : HasFlow n1.terms f
  pub does : Unwinds (IsSettled a.pair.now) n0 n1 s0 s1 (λ v. cases_at a groups (entered_case (number_of ty v value) groups)) g f (state_at a visible) (behind_at a visible) goes
