-- What is told of a pair within bounds.
use Rattle.std.specs.Prelude.{◌≡◌, ℕ, ◌<◌, ◌≤◌, List, string_bytes}
use Rattle.joint_ir.specs.declared.bounds.Bounds.{Bounds}
use Rattle.joint_ir.specs.declared.event.Outcome.TheVariants.{Broken}
use Rattle.joint_ir.specs.declared.pair.Pair.{Pair}
use Rattle.joint_ir.specs.declared.program.PropId.{PropId}
use Rattle.joint_ir.specs.Effects.{Told as Events, Stops}
use Rattle.joint_ir.specs.Runs.{run_of}
use Rattle.joint_ir.specs.Weights.{weight_of}
use Rattle.judge.specs.Verdict.{IsSuccess, IsSpentBudget}
use Rattle.named_breaks.specs.Named.{EndsByBreak}
use Rattle.trace_text.specs.Trace.{trace_text}
use Rattle.verdicts.specs.declared.Told.{Told}
use Rattle.verdicts.specs.declared.Told.TheVariants.{TooHeavy, Successful, Failed, Spent}

-- the greatest weight of a pair that is judged, in gates
abbrev pub MOST_WEIGHT : ℕ
MOST_WEIGHT = 16777216

-- The text is the trace of a run within the bounds that breaks a property. Its first line names that property, whose break is
-- the last event and the only one.
pub record IsTraceOfBreak (pair : Pair) (bounds : Bounds) (text : List ℕ) : Type 0 where
  pub choices : List ℕ
  pub prop : PropId
  pub events : Events
  pub rest : List ℕ
  pub runs : run_of pair bounds choices ≡ Stops (Broken prop) events rest
  pub ends : EndsByBreak events.events prop
  pub is : text ≡ trace_text pair events.events

-- what each answer on a pair within bounds must hold
abbrev pub IsTold : Pair → Bounds → (budget : ℕ) → Told → Type 0
IsTold pair bounds budget TooHeavy = MOST_WEIGHT < weight_of pair bounds
IsTold pair bounds budget (Successful proof) = (weight_of pair bounds ≤ MOST_WEIGHT) × IsSuccess pair bounds budget proof
IsTold pair bounds budget (Failed text) = (weight_of pair bounds ≤ MOST_WEIGHT) × IsTraceOfBreak pair bounds (string_bytes text)
IsTold pair bounds budget (Spent proof) = (weight_of pair bounds ≤ MOST_WEIGHT) × IsSpentBudget pair bounds budget proof
