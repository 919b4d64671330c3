use Rattle.std.proofs.Common.{◌≡◌, true, take, get_or, sym, ap, ◌∙◌, subst, Some, Bool, ◌&&◌}
use Rattle.std.specs.Option.{is_some}
use Rattle.std.proofs.lemmas.Bool.{OnTrue_from, and_parts}
use Rattle.clause_arena.specs.declared.ClauseId.{ClauseId}
use Rattle.clause_arena.specs.Clause.{clause_at}
use Rattle.res_log.specs.Keys.{Remembers}
use Rattle.res_log.specs.Shelf.{live_test, lists, is_new}
use Rattle.res_log.proofs.Steps.{bare, live-derived}
use Rattle.res_log.proofs.StepTests.{new-list, lists-more}
use Rattle.res_log.proofs.checks.is_right_step.Goals as goal

pub lits-requires : goal.lits-requires
lits-requires c =
    let d = bare c.derived.result in
    let t : live_test c.args.arena.now.clauses c.args.log.now c.args.k (get_or c.args.log.now c.args.k d) ≡ true = sym (c.in_ok-is_live_step.ensures.test d) ∙ c.if-not-branch.false in
    subst (λ (x : ClauseId). is_some (clause_at c.args.arena.now.clauses x.0) ≡ true) (sym (c.derived.ensures d))
    (live-derived c.args.arena.now.clauses (get_or c.args.log.now c.args.k d) (and_parts _ _ (and_parts _ _ t).0).0)

pub returns-clause-test : goal.returns-clause-test
returns-clause-test c = λ d.
    let s = get_or c.args.log.now c.args.k d in
    let t : live_test c.args.arena.now.clauses c.args.log.now c.args.k (get_or c.args.log.now c.args.k d) ≡ true = sym (c.in_ok-is_live_step.ensures.test d) ∙ c.if-not-branch.false in
    let a = (c.in_ok-added.ensures (lists c.args.arena.now.clauses (take c.args.k c.args.log.now)) c.requires.seen).0 in
    let n = new-list c.args.arena.now.clauses (take c.args.k c.args.log.now) s.derived.0 c.lits.result.now
    (subst (λ (x : ClauseId). clause_at c.args.arena.now.clauses x.0 ≡ Some c.lits.result.now) (c.derived.ensures d) c.lits.ensures.list) in
    a ∙ n ∙ ap (λ (b : Bool). b && is_new c.args.arena.now.clauses (take c.args.k c.args.log.now) s.derived.0) (sym t)

pub returns-clause-seen : goal.returns-clause-seen
returns-clause-seen c =
    let d = bare c.derived.result in
    OnTrue_from c.in_ok-added.added _ (λ u.
    subst (Remembers c.add.new.self)
    (lists-more c.args.arena.now.clauses c.args.log.now c.args.k d c.lits.result.now c.requires.place
    (subst (λ (x : ClauseId). clause_at c.args.arena.now.clauses x.0 ≡ Some c.lits.result.now) (c.derived.ensures d) c.lits.ensures.list))
    (c.in_ok-added.ensures (lists c.args.arena.now.clauses (take c.args.k c.args.log.now)) c.requires.seen).1)
