use Rattle.std.proofs.Common.{◌≡◌, [], reverse, drop}
use Rattle.c_actions.specs.Reading.{built}
use Rattle.c_build.proofs.steps.run.Given as goal

abbrev pub invariant-loop-step : goal.invariant-loop-step
invariant-loop-step l = built l.source.text.now l.source.tokens.now (drop l.step-index l.steps) (reverse l.stack.items) ≡ built l.source.text.now l.source.tokens.now l.steps []
