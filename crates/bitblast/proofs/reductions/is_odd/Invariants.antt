use Rattle.std.proofs.Common.{◌*◌, ◌%◌, take}
use Rattle.std.specs.Prelude.{nat_eq, count_ones}
use Rattle.bitblast.specs.Circuit.{MakesEdge, number_of}
use Rattle.bitblast.proofs.reductions.is_odd.Given as goal

abbrev pub invariant-loop-e : goal.invariant-loop-e
invariant-loop-e l = MakesEdge l.initial.net l.net (3 * l.e-index) (λ a. nat_eq (count_ones (number_of a (take l.e-index l.word)) % 2) 1) l.odd
