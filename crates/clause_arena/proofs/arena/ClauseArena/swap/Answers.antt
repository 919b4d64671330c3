use Rattle.std.proofs.Common.{Some, List, set, ap, sym, subst, ◌∙◌}
use Rattle.std.specs.List.{swap, slice_range}
use Rattle.clause_arena.specs.declared.Lit.{Lit}
use Rattle.clause_arena.specs.Arena.{Arena}
use Rattle.clause_arena.specs.Clause.{Clause, Clauses}
use Rattle.clause_arena.specs.Spans.{parts, IsTable}
use Rattle.clause_arena.proofs.SpanParts.{places-within, table-swap, parts-swap, clause-of, Some-is}
use Rattle.clause_arena.proofs.arena.ClauseArena.swap.Goals as goal

pub invariant_of-self : goal.invariant_of-self
invariant_of-self c =
    let clauses = ap (λ (x : Arena). x.clauses) c.self.view_is in
    let w = places-within c.self.inside.lits.items c.self.inside.spans.items c.args.id.0 c.index.result.now c.in-Some.span c.args.self.now.clauses c.args.i c.args.j clauses c.self.invariant c.index.ensures c.in-Some.is c.requires in
    subst (λ (x : List Lit). IsTable x c.self.inside.spans.items) (sym c.swap.ensures.items)
    (table-swap c.self.inside.lits.items c.self.inside.spans.items c.args.id.0 c.index.result.now c.in-Some.span c.args.i c.args.j c.self.invariant w.0 c.index.ensures c.in-Some.is w.1 w.2)

pub returns-in-Some-clause-swapped : goal.returns-in-Some-clause-swapped
returns-in-Some-clause-swapped c d e =
    let clauses = ap (λ (x : Arena). x.clauses) c.self.view_is in
    let w = places-within c.self.inside.lits.items c.self.inside.spans.items c.args.id.0 c.index.result.now c.in-Some.span c.args.self.now.clauses c.args.i c.args.j clauses c.self.invariant c.index.ensures c.in-Some.is c.requires in
    let same = Some-is _ _ (sym (clause-of c.self.inside.lits.items c.self.inside.spans.items c.args.id.0 c.index.result.now c.in-Some.span c.args.self.now.clauses clauses w.0 c.index.ensures c.in-Some.is) ∙ e) in
    ap (λ (x : List Lit). parts x c.self.inside.spans.items) c.swap.ensures.items
    ∙ parts-swap c.self.inside.lits.items c.self.inside.spans.items c.args.id.0 c.index.result.now c.in-Some.span c.args.i c.args.j c.self.invariant w.0 c.index.ensures c.in-Some.is w.1 w.2
    ∙ ap (λ (x : Clauses). set x c.args.id.0 (Some (swap (slice_range c.self.inside.lits.items c.in-Some.span.from c.in-Some.span.to) c.args.i c.args.j))) clauses
    ∙ ap (λ (x : Clause). set c.args.self.now.clauses c.args.id.0 (Some (swap x c.args.i c.args.j))) same
