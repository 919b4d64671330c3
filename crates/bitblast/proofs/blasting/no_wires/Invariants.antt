use Rattle.std.proofs.Common.{◌≡◌, [], replicate}
use Rattle.bitblast.proofs.blasting.no_wires.Given as goal

abbrev pub invariant-loop : goal.invariant-loop
invariant-loop l = l.wires ≡ replicate l.counter (record { items = [] })
