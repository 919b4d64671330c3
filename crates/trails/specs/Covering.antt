-- A whole list beside a run of a pair.
use Rattle.std.specs.Prelude.{◌≡◌, ℕ, List, Some, slice_get}
use Rattle.word_eqs.specs.declared.list.Step.{Step}
use Rattle.word_eqs.specs.Graph.{Graph}
use Rattle.word_eqs.specs.Guarded.{FitsStep}
use Rattle.word_eqs.specs.Meaning.{Values, Respects}
use Rattle.joint_ir.specs.declared.bounds.Bounds.{Bounds}
use Rattle.joint_ir.specs.declared.event.Outcome.TheVariants.{Ended}
use Rattle.joint_ir.specs.declared.pair.Pair.{Pair}
use Rattle.joint_ir.specs.declared.way.Way.{Way}
use Rattle.joint_ir.specs.Effects.{nothing, Stops}
use Rattle.joint_ir.specs.Runs.{run_of}
use Rattle.unwound.specs.Covers.{FollowsRun}
use Rattle.trails.specs.Trails.{trail}
use Rattle.trails.specs.Following.{Follows}

-- a list that a run follows, ended behind its last step, covers the run
abbrev pub TrailsCover : Type 0
TrailsCover = (pair : Pair) (bounds : Bounds) (g : Graph) (list : List Step) (v : Values) (guards : Way → ℕ) → Respects v g → ((k : ℕ) (s : Step) → slice_get list k ≡ Some s → FitsStep g s) →
    Follows (run_of pair bounds) (trail v list) guards (λ way s. Unit {0}) (λ way s c. Stops Ended nothing c) → FollowsRun pair bounds g list v
