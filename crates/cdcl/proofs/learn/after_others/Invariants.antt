use Rattle.std.proofs.Common.{take}
use Rattle.cdcl.proofs.Levels.{Others}
use Rattle.cdcl.proofs.learn.after_others.Given as goal

abbrev pub invariant-loop-l : goal.invariant-loop-l
invariant-loop-l l = Others l.trail.lits.items l.trail.places.items l.start l.learned (take l.l-index l.learned) l.end
