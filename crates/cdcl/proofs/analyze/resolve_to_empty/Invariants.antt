use Rattle.cdcl.specs.Held.{vars_of}
use Rattle.cdcl.proofs.Marking.{Emptying}
use Rattle.cdcl.proofs.analyze.resolve_to_empty.Given as goal

abbrev pub invariant-back : goal.invariant-back
invariant-back l = Emptying l.arena.clauses l.trail.lits.items (vars_of l.trail) l.fn.conflict l.steps.items l.seen.items l.early.items l.i

abbrev pub decreases-back : goal.decreases-back
decreases-back l = l.i
