use Rattle.std.proofs.Common.{◌≡◌, replicate}
use Rattle.bitblast.proofs.shapes.filled.Given as goal

abbrev pub invariant-loop : goal.invariant-loop
invariant-loop l = l.made.items ≡ replicate l.counter l.e
