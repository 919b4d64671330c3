use Rattle.std.proofs.Common.{◌≡◌, [], reverse, drop}
use Rattle.v_actions.specs.Acts.{built}
use Rattle.v_build.specs.Sources.{lexemes_of}
use Rattle.v_build.proofs.steps.run.Given as goal

abbrev pub invariant-loop-step : goal.invariant-loop-step
invariant-loop-step l = built (lexemes_of l.source) (drop l.step-index l.steps) (reverse l.stack.items) ≡ built (lexemes_of l.source) l.steps []
