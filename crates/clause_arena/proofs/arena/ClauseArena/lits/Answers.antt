use Rattle.std.proofs.Common.{◌≤◌, length, List, ap, sym, subst}
use Rattle.clause_arena.specs.declared.Lit.{Lit}
use Rattle.clause_arena.specs.Arena.{Arena}
use Rattle.clause_arena.proofs.SpanParts.{span-at}
use Rattle.clause_arena.proofs.arena.ClauseArena.lits.Goals as goal

pub part_of-requires-clause-start : goal.part_of-requires-clause-start
part_of-requires-clause-start c =
    (span-at c.self.inside.lits.items c.self.inside.spans.items c.args.id.0 c.index.result.now c.in-Some.span c.args.self.now.clauses (ap (λ (x : Arena). x.clauses) c.self.view_is) c.self.invariant c.index.ensures c.in-Some.is c.requires).0

pub part_of-requires-clause-end : goal.part_of-requires-clause-end
part_of-requires-clause-end c =
    subst (λ (x : List Lit). c.in-Some.span.to ≤ length x) (sym c.deref.ensures.value)
    (span-at c.self.inside.lits.items c.self.inside.spans.items c.args.id.0 c.index.result.now c.in-Some.span c.args.self.now.clauses (ap (λ (x : Arena). x.clauses) c.self.view_is) c.self.invariant c.index.ensures c.in-Some.is c.requires).1
