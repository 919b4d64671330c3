use Rattle.std.proofs.Common.{◌≡◌, true, List, length, get_or, sym, ◌∙◌, subst, Some}
use Rattle.std.specs.List.{list_all}
use Rattle.std.specs.Option.{is_some}
use Rattle.std.proofs.lemmas.Bool.{MatchBool-at_true, MatchBool-at_false}
use Rattle.clause_arena.specs.declared.ClauseId.{ClauseId}
use Rattle.clause_arena.specs.Clause.{clause_at}
use Rattle.res_log.specs.declared.ChainStep.{ChainStep}
use Rattle.res_log.proofs.Steps.{bare, live-derived, live-first, live-rest}
use Rattle.res_log.proofs.StepTests.{found, not-empty, test-none, test-same}
use Rattle.res_log.proofs.checks.is_live_step.Goals as goal

pub lits-requires : goal.lits-requires
lits-requires c =
    let d = bare c.first-first.result in
    subst (λ (x : ClauseId). is_some (clause_at c.args.arena.now.clauses x.0) ≡ true) (sym (c.first-first.ensures d))
    (live-first c.args.arena.now.clauses (get_or c.args.log.now c.args.k d) (sym (c.are_ids_live.ensures d) ∙ c.if-not-are_ids_live.false))

pub run_chain-requires-clause-live : goal.run_chain-requires-clause-live
run_chain-requires-clause-live c =
    let d = bare c.first-first.result in
    subst (λ (xs : List ChainStep). list_all (λ x. is_some (clause_at c.args.arena.now.clauses x.clause.0)) xs ≡ true) (sym (c.rest-rest.ensures d))
    (live-rest c.args.arena.now.clauses (get_or c.args.log.now c.args.k d) (sym (c.are_ids_live.ensures d) ∙ c.if-not-are_ids_live.false))

pub returns-then-not-branch-clause-test : goal.returns-then-not-branch-clause-test
returns-then-not-branch-clause-test c = λ d.
    test-none c.args.arena.now.clauses c.args.log.now c.args.table.now c.args.k (get_or c.args.log.now c.args.k d) c.lits.result.now c.rest-rest.result.now
    (found c.args.arena.now.clauses c.args.log.now c.args.table.now c.args.k (get_or c.args.log.now c.args.k d) c.lits.result.now c.rest-rest.result.now c.derived-derived.result c.first-first.result
    c.requires.table c.requires.size (sym (c.are_ids_live.ensures d) ∙ c.if-not-are_ids_live.false) (c.derived-derived.ensures d) (c.first-first.ensures d) (c.rest-rest.ensures d)
    (sym c.is_derived_before.ensures ∙ c.if-is_derived_before.false) (sym c.is_there.ensures ∙ c.if-not-is_there.false) (not-empty c.is_empty.result (length c.rest-rest.result.now) c.is_empty.ensures c.if-is_empty.false) c.lits.ensures.list)
    (MatchBool-at_false _ _ c.if-not-branch.true c.in_ok-run_chain.ensures)

pub lits-requires-2 : goal.lits-requires-2
lits-requires-2 c =
    let d = bare c.first-first.result in
    subst (λ (x : ClauseId). is_some (clause_at c.args.arena.now.clauses x.0) ≡ true) (sym (c.derived-derived.ensures d))
    (live-derived c.args.arena.now.clauses (get_or c.args.log.now c.args.k d) (sym (c.are_ids_live.ensures d) ∙ c.if-not-are_ids_live.false))

pub returns-clause-test : goal.returns-clause-test
returns-clause-test c = λ d.
    test-same c.args.arena.now.clauses c.args.log.now c.args.table.now c.args.k (get_or c.args.log.now c.args.k d) c.lits.result.now c.rest-rest.result.now c.run_chain.new.marks c.lits-2.result.now c.take_if_same.result
    (found c.args.arena.now.clauses c.args.log.now c.args.table.now c.args.k (get_or c.args.log.now c.args.k d) c.lits.result.now c.rest-rest.result.now c.derived-derived.result c.first-first.result
    c.requires.table c.requires.size (sym (c.are_ids_live.ensures d) ∙ c.if-not-are_ids_live.false) (c.derived-derived.ensures d) (c.first-first.ensures d) (c.rest-rest.ensures d)
    (sym c.is_derived_before.ensures ∙ c.if-is_derived_before.false) (sym c.is_there.ensures ∙ c.if-not-is_there.false) (not-empty c.is_empty.result (length c.rest-rest.result.now) c.is_empty.ensures c.if-is_empty.false) c.lits.ensures.list)
    (MatchBool-at_true _ _ c.if-not-branch.false c.in_ok-run_chain.ensures)
    (subst (λ (x : ClauseId). clause_at c.args.arena.now.clauses x.0 ≡ Some c.lits-2.result.now) (c.derived-derived.ensures d) c.lits-2.ensures.list)
    c.take_if_same.ensures.same
