use Rattle.cdcl.specs.Held.{Spreads}
use Rattle.cdcl.specs.Watching.{IsBegun}
use Rattle.cdcl.proofs.start.watch_all.Given as goal

abbrev pub invariant-loop-i : goal.invariant-loop-i
invariant-loop-i l = record {
  spread : Spreads l.arena.clauses l.initial.trail l.trail;
  begun : IsBegun l.arena.clauses l.i l.trail l.watches;
}
