use Rattle.std.proofs.Common.{◌*◌, take}
use Rattle.gate_net.specs.Edge.{edge_value}
use Rattle.bits_core.specs.Word.{bit}
use Rattle.bitblast.specs.Circuit.{MakesWord, number_of}
use Rattle.bitblast.proofs.bitwise.masked.Given as goal

abbrev pub invariant-loop-p : goal.invariant-loop-p
invariant-loop-p l = MakesWord l.initial.net l.net l.p-index l.p-index (λ a. bit (edge_value a l.condition) * number_of a (take l.p-index l.word)) l.made.items
