use Rattle.std.proofs.Common.{◌≡◌, take}
use Rattle.cdcl.specs.Marks.{left}
use Rattle.cdcl.proofs.shorten.left_of.Given as goal

abbrev pub invariant-loop-l : goal.invariant-loop-l
invariant-loop-l l = l.kept.items ≡ left l.gone (take l.l-index l.lits)
