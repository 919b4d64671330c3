use Rattle.std.proofs.Common.{◌-◌, ◌*◌, drop, length}
use Rattle.bitblast.specs.Circuit.{number_of}
use Rattle.bitblast.specs.Quotients.{MakesDivision}
use Rattle.bitblast.proofs.quotients.divide.Given as goal

abbrev pub invariant-loop-i : goal.invariant-loop-i
invariant-loop-i l = MakesDivision l.initial.net l.net (13 * (length l.dividend * (length l.dividend - l.i))) (length l.dividend - l.i) (λ a. number_of a (drop l.i l.dividend)) l.divisor l.quotient.items l.rest.items
