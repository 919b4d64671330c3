use Rattle.std.proofs.Common.{◌≡◌, ◌<◌, ◌-◌, ◌+◌, length, get_or}
use Rattle.clause_arena.specs.declared.Lit.{Lit}
use Rattle.cdcl.specs.Trail.{AreForcedFrom}
use Rattle.clause_arena.specs.Clause.{opposite}
use Rattle.cdcl.specs.Held.{Spreads, vars_of, reasons_of}
use Rattle.cdcl.specs.Watched.{IsWatched, IsSized, AreVisited, listed}
use Rattle.cdcl.proofs.propagate.pass.Given as goal

abbrev pub invariant-list : goal.invariant-list
invariant-list l = record {
  spread : Spreads l.arena.clauses l.initial.trail l.trail;
  here : (d : Lit) → get_or l.trail.lits.items l.head d ≡ opposite l.gone;
  head : l.head < length l.trail.lits.items;
  forced : AreForcedFrom (reasons_of l.trail) (l.head + 1);
  sized : IsSized l.arena.clauses (vars_of l.trail) l.watches.lists l.watches.pairs;
  watched : IsWatched l.arena.clauses l.trail.lits.items (reasons_of l.trail) l.head l.watches.lists l.watches.pairs;
  visited : AreVisited l.arena.clauses l.trail.lits.items l.watches.lists l.watches.pairs l.gone l.i;
}

abbrev pub decreases-list : goal.decreases-list
decreases-list l = length (listed l.watches.lists l.gone) - l.i
