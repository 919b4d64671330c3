use Rattle.std.proofs.Common.{◌++◌, ◌∷◌, [], Some, ap, ◌∙◌}
use Rattle.clause_arena.specs.Arena.{Arena, MOST_CLAUSES}
use Rattle.clause_arena.proofs.SpanParts.{table-stored, few-from_view}
use Rattle.clause_arena.proofs.arena.ClauseArena.push_reserved.Goals as goal

pub invariant_of-self : goal.invariant_of-self
invariant_of-self c =
    (table-stored c.self.inside.lits.items c.args.lits.now c.append_reserved.new.lits.items c.self.inside.spans.items c.push_reserved.new.self.items c.len-from.result c.len-to.result
    c.append_reserved.ensures.items (c.len-from.ensures ∙ c.self.inside.lits.ok.0) (c.len-to.ensures ∙ c.append_reserved.new.lits.ok.0) c.push_reserved.ensures.items
    (few-from_view c.self.inside.lits.items c.self.inside.spans.items c.args.self.now.clauses MOST_CLAUSES (ap (λ (x : Arena). x.clauses) c.self.view_is) c.requires.room) c.requires.distinct c.self.invariant).0

pub returns-clause-stored : goal.returns-clause-stored
returns-clause-stored c =
    (table-stored c.self.inside.lits.items c.args.lits.now c.append_reserved.new.lits.items c.self.inside.spans.items c.push_reserved.new.self.items c.len-from.result c.len-to.result
    c.append_reserved.ensures.items (c.len-from.ensures ∙ c.self.inside.lits.ok.0) (c.len-to.ensures ∙ c.append_reserved.new.lits.ok.0) c.push_reserved.ensures.items
    (few-from_view c.self.inside.lits.items c.self.inside.spans.items c.args.self.now.clauses MOST_CLAUSES (ap (λ (x : Arena). x.clauses) c.self.view_is) c.requires.room) c.requires.distinct c.self.invariant).1
    ∙ ap (λ (x : Arena). x.clauses ++ Some c.args.lits.now ∷ []) c.self.view_is
