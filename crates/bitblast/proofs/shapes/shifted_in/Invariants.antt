use Rattle.bitblast.proofs.Wiring.{IsShiftedIn}
use Rattle.bitblast.proofs.shapes.shifted_in.Given as goal

abbrev pub invariant-loop-e : goal.invariant-loop-e
invariant-loop-e l = IsShiftedIn l.word l.fn.low l.e-index l.made.items l.out
