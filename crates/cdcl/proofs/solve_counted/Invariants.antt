use Rattle.std.proofs.Common.{◌≡◌, ◌+◌, ◌-◌, ◌*◌, length}
use Rattle.cdcl.specs.Watching.{IsWatching}
use Rattle.cdcl.specs.Pick.{AreKnown}
use Rattle.cdcl.proofs.Solves.{Searching}
use Rattle.cdcl.proofs.solve_counted.Given as goal

abbrev pub invariant-search : goal.invariant-search
invariant-search g l =
    Searching l.initial.arena.clauses l.arena.clauses l.log l.vars l.budget l.trail × ((goal.Chooser-dyn g (l.chooser.vtable, l.chooser.value)).ready_for l.chooser.value ≡ l.vars) × IsWatching l.arena.clauses l.trail l.watches × AreKnown ((goal.Chooser-dyn g (l.chooser.vtable, l.chooser.value)).knows l.chooser.value) l.trail.values.items

abbrev pub decreases-search : goal.decreases-search
decreases-search g l = (l.budget - length l.log) * (l.vars + 1) + (l.vars - length l.trail.lits.items)
