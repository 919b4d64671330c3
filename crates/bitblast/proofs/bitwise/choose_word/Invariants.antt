use Rattle.std.proofs.Common.{◌*◌, take}
use Rattle.std.specs.Prelude.{if◌then◌else◌}
use Rattle.gate_net.specs.Edge.{edge_value}
use Rattle.bitblast.specs.Circuit.{MakesWord, number_of}
use Rattle.bitblast.proofs.bitwise.choose_word.Given as goal

abbrev pub invariant-loop-i : goal.invariant-loop-i
invariant-loop-i l = MakesWord l.initial.net l.net (3 * l.i) l.i (λ a. if edge_value a l.condition then number_of a (take l.i l.left) else number_of a (take l.i l.right)) l.made.items
