use Rattle.std.proofs.Common.{None, set, ap, ◌∙◌}
use Rattle.clause_arena.specs.Arena.{Arena}
use Rattle.clause_arena.proofs.SpanParts.{parts-dead, table-dead}
use Rattle.clause_arena.proofs.arena.ClauseArena.set_dead.Goals as goal

pub invariant_of-self : goal.invariant_of-self
invariant_of-self c = table-dead c.self.inside.lits.items c.self.inside.spans.items c.args.id.0 c.self.invariant

pub returns-clause-dead : goal.returns-clause-dead
returns-clause-dead c =
    parts-dead c.self.inside.lits.items c.self.inside.spans.items c.args.id.0
    ∙ ap (λ (x : Arena). set x.clauses c.args.id.0 None) c.self.view_is
