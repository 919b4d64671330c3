use Rattle.std.proofs.Common.{List, [], ◌∷◌, ◌++◌, get_or, sym, ap, ◌∙◌}
use Rattle.clause_arena.specs.declared.Lit.{Lit}
use Rattle.cdcl.proofs.Back.{zero_lit}
use Rattle.cdcl.proofs.Shortening.{left-skip, left-keep}
use Rattle.cdcl.proofs.shorten.left_of.Goals as goal

pub loop-l-preserved-then-gone-at : goal.loop-l-preserved-then-gone-at
loop-l-preserved-then-gone-at c = c.loop-l.invariant ∙ sym (left-skip c.args.gone.now c.args.lits.now c.loop-l.l-index c.loop-l-test.true c.if-gone-at.true)

pub loop-l-preserved : goal.loop-l-preserved
loop-l-preserved c =
    c.in_ok-push.ensures.ok
    ∙ ap (λ (xs : List Lit). xs ++ get_or c.args.lits.now c.loop-l.l-index zero_lit ∷ []) c.loop-l.invariant
    ∙ sym (left-keep c.args.gone.now c.args.lits.now c.loop-l.l-index c.loop-l-test.true c.if-gone-at.false)
