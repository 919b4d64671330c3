use Rattle.std.proofs.Common.{◌≤◌, ◌-◌, ◌+◌, length}
use Rattle.cdcl.specs.Trail.{AreForcedFrom}
use Rattle.cdcl.specs.Held.{Spreads, vars_of, reasons_of}
use Rattle.cdcl.specs.Watched.{IsWatched, IsSized}
use Rattle.cdcl.proofs.propagate.propagate_from.Given as goal

abbrev pub invariant-spread : goal.invariant-spread
invariant-spread l = record {
  spread : Spreads l.arena.clauses l.initial.trail l.trail;
  from : l.head ≤ l.at;
  to : l.at ≤ length l.trail.lits.items;
  forced : AreForcedFrom (reasons_of l.trail) (l.at + 1);
  sized : IsSized l.arena.clauses (vars_of l.trail) l.watches.lists l.watches.pairs;
  watched : IsWatched l.arena.clauses l.trail.lits.items (reasons_of l.trail) l.at l.watches.lists l.watches.pairs;
}

abbrev pub decreases-spread : goal.decreases-spread
decreases-spread l = vars_of l.trail - l.at
