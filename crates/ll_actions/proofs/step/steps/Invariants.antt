use Rattle.std.proofs.Common.{◌≡◌, ◌++◌, drop}
use Rattle.ll_actions.specs.Steps.{steps_of}
use Rattle.ll_actions.proofs.step.steps.Given as goal

abbrev pub invariant-loop-production : goal.invariant-loop-production
invariant-loop-production l = l.steps.items ++ steps_of l.marks (drop l.production-index l.placed) ≡ steps_of l.marks l.placed
