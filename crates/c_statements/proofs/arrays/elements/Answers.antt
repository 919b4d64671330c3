use Rattle.std.proofs.Common.{◌+◌, sym, subst}
use Rattle.c_statements.specs.Halves.{ElementsSoFar}
use Rattle.c_statements.proofs.Arguments.{elements_next}
use Rattle.c_statements.proofs.arrays.elements.Goals as goal

pub loop-e-preserved : goal.loop-e-preserved
loop-e-preserved c =
    subst (ElementsSoFar c.args.scopes.now c.args.notes.now c.expression.new.notes c.args.ty c.args.elements.now (c.loop-e.e-index + 1)) (sym c.in_ok-push.ensures.ok)
    (elements_next c.args.scopes.now c.args.notes.now c.loop-e.notes c.expression.new.notes c.args.ty c.args.elements.now c.loop-e.e-index c.loop-e.typed c.e-item.result c.in_ok-x.x c.in_ok-t.t
    c.loop-e-test.true c.e-item.is c.loop-e.invariant c.in_ok-x.ensures c.in_ok-t.ensures)
