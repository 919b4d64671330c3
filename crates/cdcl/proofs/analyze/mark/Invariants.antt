use Rattle.std.proofs.Common.{◌≡◌, length, take}
use Rattle.clause_arena.specs.Clause.{IsEachOnce}
use Rattle.cdcl.specs.Held.{vars_of}
use Rattle.cdcl.specs.Marks.{IsMarked, AreEarly}
use Rattle.cdcl.proofs.analyze.mark.Given as goal

abbrev pub invariant-loop-l : goal.invariant-loop-l
invariant-loop-l l = record {
  sized : length l.seen ≡ vars_of l.trail;
  marked : IsMarked l.initial.seen l.seen (take l.l-index l.clause);
  early : AreEarly l.trail.lits.items l.start l.seen l.early.items;
  once : IsEachOnce l.early.items;
}
