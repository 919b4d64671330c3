use Rattle.std.proofs.Common.{◌++◌, get_or, subst, false}
use Rattle.std.proofs.lemmas.Bool.{MatchBool-at_true, MatchBool-at_false}
use Rattle.std.proofs.lemmas.List.{get_or_default, take_all}
use Rattle.clause_arena.specs.declared.Lit.{Lit}
use Rattle.clause_arena.specs.Clause.{Clause}
use Rattle.res_log.specs.Marks.{Marks}
use Rattle.res_log.proofs.Marking.{all-more, all-clash}
use Rattle.res_log.proofs.marks.MarkedClause.add_all.Goals as goal

pub returns-then-not-branch : goal.returns-then-not-branch
returns-then-not-branch c = λ d h.
    let x : Lit = get_or c.args.clause.now c.loop-lit.lit-index (record { var = 0; negative = false }) in
    all-clash c.loop-lit.self d c.args.clause.now c.loop-lit.lit-index x c.loop-lit-test.true
    (get_or_default _ _ _ x c.loop-lit-test.true) (c.loop-lit.invariant d h) (MatchBool-at_false _ _ c.if-not-branch.true c.in_ok-add.ensures)

pub loop-lit-preserved : goal.loop-lit-preserved
loop-lit-preserved c = λ d h.
    let x : Lit = get_or c.args.clause.now c.loop-lit.lit-index (record { var = 0; negative = false }) in
    all-more c.loop-lit.self c.add.new.self d c.args.clause.now c.loop-lit.lit-index x c.loop-lit-test.true
    (get_or_default _ _ _ x c.loop-lit-test.true) (c.loop-lit.invariant d h) (MatchBool-at_true _ _ c.if-not-branch.false c.in_ok-add.ensures)

pub returns : goal.returns
returns c = λ d h.
    subst (λ (r : Clause). Marks c.loop-lit.self (d ++ r)) (take_all c.loop-lit.lit-index c.args.clause.now c.loop-lit-test.false) (c.loop-lit.invariant d h)
