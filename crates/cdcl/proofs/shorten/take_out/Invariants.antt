use Rattle.cdcl.specs.Marks.{IsShortening}
use Rattle.cdcl.proofs.shorten.take_out.Given as goal

abbrev pub invariant-loop-i : goal.invariant-loop-i
invariant-loop-i l = IsShortening l.arena.clauses l.trail l.start l.fn.conflict l.steps.items l.seen l.gone l.lits.items
