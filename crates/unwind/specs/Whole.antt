-- The parts of a whole list: how it begins, the body of `main`, and what is tested behind it.
use Rattle.std.specs.Prelude.{◌≡◌, ℕ, ◌+◌, ◌*◌, ◌≤◌, List, [], slice_get}
use Rattle.word_eqs.specs.declared.list.Step.{Step}
use Rattle.word_eqs.specs.Gates.{gate_count}
use Rattle.word_eqs.specs.Graph.{Graph}
use Rattle.word_eqs.specs.Guarded.{IsOrdered}
use Rattle.joint_ir.specs.declared.bounds.Bounds.{Bounds}
use Rattle.joint_ir.specs.declared.pair.Pair.{Pair}
use Rattle.joint_ir.specs.Runs.{body_of, main_effect}
use Rattle.joint_ir.specs.Steps.{result_of}
use Rattle.trails.specs.Following.{goes}
use Rattle.unrolled.specs.declared.Objects.{Objects}
use Rattle.unrolled.specs.declared.Unrolled.{Unrolled}
use Rattle.unwind_state.specs.declared.state.Flow.{Flow}
use Rattle.unwind_state.specs.declared.state.Guard.TheVariants.{Always}
use Rattle.unwind_state.specs.declared.state.State.{State}
use Rattle.unwind_state.specs.Guards.{Adds}
use Rattle.unwind_state.specs.Images.{IsState, IsSettled, IsBehind}
use Rattle.unwind_state.specs.Unwinding.{Unwinds}
use Rattle.unwound.specs.Covers.{AreNarrow}
use Rattle.unwind.specs.Rows.{AreRows}

-- terms of the first elements of all objects were made, but for the mirror's
pub record HasFirstObjects (p : Pair) (n0 n1 : Unrolled) (o : Objects) : Type 0 where
  pub adds : Adds n0 n1
  pub globals : AreRows n1.terms p.program.globals o.globals.items
  pub locals : AreRows n1.terms p.program.locals o.locals.items
  pub members : o.members.items ≡ []

-- the body of `main` was unwound, whatever ways on it leaves
pub record IsMainUnwound (p : Pair) (b : Bounds) (n0 n1 : Unrolled) (s0 s1 : State) : Type 0 where
  pub flow : Flow
  pub visible : List ℕ
  pub does : Unwinds (IsSettled p) n0 n1 s0 s1 (λ v. main_effect p b (body_of (slice_get p.program.functions p.program.main))) Always flow (IsState p []) (IsBehind p visible (result_of (slice_get p.program.functions p.program.main))) goes

-- the choices of a list have at most 64 bits, and its gates are within a weight
pub record IsSmall (g : Graph) (list : List Step) (weight : ℕ) : Type 0 where
  pub narrow : AreNarrow g list
  pub few : 1 + gate_count g list ≤ 8 * weight

-- such a list, in order
pub record IsWithin (g : Graph) (list : List Step) (weight : ℕ) : Type 0 where
  pub ordered : IsOrdered g list
  pub small : IsSmall g list weight
