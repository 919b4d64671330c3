-- When a guarded list covers all runs of a pair within bounds.
use Rattle.std.specs.Prelude.{◌≡◌, ℕ, ◌+◌, ◌*◌, ◌≤◌, List, [], Option, Some, None, slice_get}
use Rattle.word_eqs.specs.declared.list.Act.TheVariants.{Free}
use Rattle.word_eqs.specs.declared.list.Step.{Step}
use Rattle.word_eqs.specs.declared.term.VarId.{VarId}
use Rattle.word_eqs.specs.Assignments.{IsAssignment, broken_in}
use Rattle.word_eqs.specs.Gates.{gate_count}
use Rattle.word_eqs.specs.Graph.{Graph, width_of_var}
use Rattle.word_eqs.specs.Guarded.{IsOrdered, walk, choices_read, widths_read}
use Rattle.word_eqs.specs.Meaning.{Values}
use Rattle.joint_ir.specs.declared.bounds.Bounds.{Bounds}
use Rattle.joint_ir.specs.declared.event.Outcome.{Outcome}
use Rattle.joint_ir.specs.declared.event.Outcome.TheVariants.{Ended, Cut, OutOfFrames, Broken}
use Rattle.joint_ir.specs.declared.pair.Pair.{Pair}
use Rattle.joint_ir.specs.Effects.{Told, Stops}
use Rattle.joint_ir.specs.Runs.{run_of}
use Rattle.joint_ir.specs.Weights.{weight_of}

-- the property that ends a run, if one does
abbrev pub broken_by : Outcome → Option ℕ
broken_by Ended = None
broken_by Cut = None
broken_by OutOfFrames = None
broken_by (Broken p) = Some p.0

-- The run on the choices that an assignment reads draws all of them and asks for no more. Each is drawn at the width that it
-- is read at. The list breaks a property exactly where the run does.
pub record FollowsRun (pair : Pair) (bounds : Bounds) (g : Graph) (list : List Step) (v : Values) : Type 0 where
  pub outcome : Outcome
  pub told : Told
  pub runs : run_of pair bounds (choices_read (walk v list)) ≡ Stops outcome told []
  pub widths : told.widths ≡ widths_read g v list
  pub breaks : broken_by outcome ≡ broken_in (walk v list)

-- a variable that the list leaves free has at most 64 bits, as a choice has
pub record AreNarrow (g : Graph) (list : List Step) : Type 0 where
  pub at : (k : ℕ) (s : Step) (x : VarId) → slice_get list k ≡ Some s → s.act ≡ Free x → width_of_var g x.0 ≤ 64

-- The list covers all runs of the pair within the bounds.
pub record CoversRuns (pair : Pair) (bounds : Bounds) (g : Graph) (list : List Step) : Type 0 where
  pub ordered : IsOrdered g list
  pub narrow : AreNarrow g list
  pub runs : (v : Values) → IsAssignment g list v → FollowsRun pair bounds g list v
  -- its gates are as few as the weight says
  pub few : 1 + gate_count g list ≤ 8 * weight_of pair bounds
