use Rattle.std.proofs.Common.{◌*◌, take, length}
use Rattle.bitblast.specs.Circuit.{MakesWord, number_of}
use Rattle.bitblast.specs.Shifts.{shifted}
use Rattle.bitblast.proofs.shifts.shift_in_stages.Given as goal

abbrev pub invariant-loop-k : goal.invariant-loop-k
invariant-loop-k l = MakesWord l.initial.net l.net (3 * (length l.word * l.k)) (length l.word) (λ a. shifted l.direction (length l.word) (number_of a l.word) (number_of a (take l.k l.amount))) l.made.items
