use Rattle.std.proofs.Common.{◌≡◌, drop}
use Rattle.command_options.specs.Limits.{are_apart}
use Rattle.command_options.proofs.limits.are_apart.Given as goal

abbrev pub invariant-loop-i : goal.invariant-loop-i
invariant-loop-i l = are_apart l.entries ≡ are_apart (drop l.i l.entries)
