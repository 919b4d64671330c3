use Rattle.std.proofs.Common.{◌≡◌, List, length, drop, ap, sym, subst, ◌∙◌, arith}
use Rattle.std.proofs.lemmas.List.{take_at}
use Rattle.clause_arena.specs.declared.Lit.{Lit}
use Rattle.clause_arena.specs.Arena.{Arena}
use Rattle.clause_arena.specs.Spans.{parts, IsTable}
use Rattle.clause_arena.proofs.SpanParts.{table-cut, parts-cut}
use Rattle.clause_arena.proofs.arena.ClauseArena.compact.Goals as goal

pub invariant_of-self : goal.invariant_of-self
invariant_of-self c =
    let same : parts c.close_gaps-end.new.lits.items c.close_gaps-end.new.spans ≡ parts c.self.inside.lits.items c.self.inside.spans.items =
    c.close_gaps-end.ensures.same ∙ ap (parts c.self.inside.lits.items) c.as_mut_slice.ensures.value
    in
    let n : length c.close_gaps-end.new.spans ≡ c.self.inside.spans.len = c.close_gaps-end.auto.spans ∙ c.as_mut_slice.ensures.len in
    subst (IsTable c.truncate.new.self.items) (sym (take_at c.close_gaps-end.new.spans (drop (length c.close_gaps-end.new.spans) c.self.inside.spans.items) c.self.inside.spans.len n))
    (subst (λ (x : List Lit). IsTable x c.close_gaps-end.new.spans) (sym c.truncate.ensures.items)
    (table-cut c.self.inside.lits.items c.close_gaps-end.new.lits.items c.self.inside.spans.items c.close_gaps-end.new.spans c.close_gaps-end.result c.self.invariant same c.close_gaps-end.ensures.order c.close_gaps-end.ensures.within))

pub returns-clause-same : goal.returns-clause-same
returns-clause-same c =
    let same : parts c.close_gaps-end.new.lits.items c.close_gaps-end.new.spans ≡ parts c.self.inside.lits.items c.self.inside.spans.items =
    c.close_gaps-end.ensures.same ∙ ap (parts c.self.inside.lits.items) c.as_mut_slice.ensures.value
    in
    let n : length c.close_gaps-end.new.spans ≡ c.self.inside.spans.len = c.close_gaps-end.auto.spans ∙ c.as_mut_slice.ensures.len in
    ap (parts c.truncate.new.self.items) (take_at c.close_gaps-end.new.spans (drop (length c.close_gaps-end.new.spans) c.self.inside.spans.items) c.self.inside.spans.len n)
    ∙ ap (λ (x : List Lit). parts x c.close_gaps-end.new.spans) c.truncate.ensures.items
    ∙ parts-cut c.close_gaps-end.new.lits.items c.close_gaps-end.new.spans c.close_gaps-end.result c.close_gaps-end.ensures.order c.close_gaps-end.ensures.within
    ∙ same
    ∙ ap (λ (x : Arena). x.clauses) c.self.view_is

pub returns-clause-kept : goal.returns-clause-kept
returns-clause-kept c =
    let clauses = ap (λ (x : Arena). x.spare_clauses) c.self.view_is in
    let lits = ap (λ (x : Arena). x.spare_lits) c.self.view_is in
    let before = c.self.inside.lits.ok.0 in
    let after = c.close_gaps-end.new.lits.ok.0 in
    record { clauses = omega arith; lits = omega arith }
