use Rattle.std.proofs.Common.{take}
use Rattle.std.specs.Prelude.{nat_lt}
use Rattle.bitblast.specs.Circuit.{MakesEdge, number_of}
use Rattle.bitblast.proofs.reductions.is_some_set.Given as goal

abbrev pub invariant-loop-e : goal.invariant-loop-e
invariant-loop-e l = MakesEdge l.initial.net l.net l.e-index (λ a. nat_lt 0 (number_of a (take l.e-index l.word))) l.some
