use Rattle.std.proofs.Common.{◌≡◌, drop}
use Rattle.elab_modules.specs.Below.{is_above}
use Rattle.elab_modules.proofs.below.is_above.Given as goal

abbrev pub invariant-loop-a : goal.invariant-loop-a
invariant-loop-a l = is_above l.above l.number ≡ is_above (drop l.a-index l.above) l.number
