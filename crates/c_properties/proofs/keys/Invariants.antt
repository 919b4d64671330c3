use Rattle.c_properties.specs.Keys.{KeysSoFar}
use Rattle.c_properties.proofs.keys.Given as goal

abbrev pub invariant-loop-site : goal.invariant-loop-site
invariant-loop-site l = KeysSoFar l.sites l.site-index l.v.items
