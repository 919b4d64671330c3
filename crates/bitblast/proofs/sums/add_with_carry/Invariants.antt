use Rattle.std.proofs.Common.{◌+◌, ◌*◌, take}
use Rattle.gate_net.specs.Edge.{edge_value}
use Rattle.bits_core.specs.Word.{bit}
use Rattle.bitblast.specs.Circuit.{MakesSum, number_of}
use Rattle.bitblast.proofs.sums.add_with_carry.Given as goal

abbrev pub invariant-loop-i : goal.invariant-loop-i
invariant-loop-i l = MakesSum l.initial.net l.net (9 * l.i) l.i (λ a. number_of a (take l.i l.left) + number_of a (take l.i l.right) + bit (edge_value a l.fn.carry_in)) l.word.items l.carry
