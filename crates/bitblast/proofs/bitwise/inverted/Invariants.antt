use Rattle.bitblast.proofs.BitLaws.{IsInverted}
use Rattle.bitblast.proofs.bitwise.inverted.Given as goal

abbrev pub invariant-loop-e : goal.invariant-loop-e
invariant-loop-e l = IsInverted l.word l.e-index l.made.items
