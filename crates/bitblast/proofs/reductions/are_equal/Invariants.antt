use Rattle.std.proofs.Common.{◌*◌, take}
use Rattle.std.specs.Prelude.{nat_eq}
use Rattle.bitblast.specs.Circuit.{MakesEdge, number_of}
use Rattle.bitblast.proofs.reductions.are_equal.Given as goal

abbrev pub invariant-loop-i : goal.invariant-loop-i
invariant-loop-i l = MakesEdge l.initial.net l.net (4 * l.i) (λ a. nat_eq (number_of a (take l.i l.left)) (number_of a (take l.i l.right))) l.equal
