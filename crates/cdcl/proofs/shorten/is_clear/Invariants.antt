use Rattle.std.proofs.Common.{◌≡◌, ℕ, ◌<◌, false, get_or}
use Rattle.cdcl.specs.Marks.{is_seen}
use Rattle.cdcl.proofs.Back.{zero_lit}
use Rattle.cdcl.proofs.shorten.is_clear.Given as goal

abbrev pub invariant-loop-l : goal.invariant-loop-l
invariant-loop-l l = (k : ℕ) → k < l.l-index → is_seen l.gone (get_or l.clause k zero_lit).var ≡ false
