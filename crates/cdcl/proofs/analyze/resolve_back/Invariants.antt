use Rattle.cdcl.specs.Held.{vars_of}
use Rattle.cdcl.proofs.Marking.{Resolving}
use Rattle.cdcl.proofs.analyze.resolve_back.Given as goal

abbrev pub invariant-back : goal.invariant-back
invariant-back l = Resolving l.arena.clauses l.trail.lits.items (vars_of l.trail) l.start l.fn.conflict l.steps.items l.seen.items l.early.items l.i

abbrev pub decreases-back : goal.decreases-back
decreases-back l = l.i
