use Rattle.std.proofs.Common.{◌*◌, take}
use Rattle.bitblast.specs.Bitwise.{bit_gates, word_result}
use Rattle.bitblast.specs.Circuit.{MakesWord, number_of}
use Rattle.bitblast.proofs.bitwise.bit_by_bit.Given as goal

abbrev pub invariant-loop-i : goal.invariant-loop-i
invariant-loop-i l = MakesWord l.initial.net l.net (bit_gates l.op * l.i) l.i (λ a. word_result l.op (number_of a (take l.i l.left)) (number_of a (take l.i l.right))) l.made.items
