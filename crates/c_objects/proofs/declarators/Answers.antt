use Rattle.c_objects.proofs.Going.{objects_next}
use Rattle.c_objects.proofs.declarators.Goals as goal

pub loop-d-preserved : goal.loop-d-preserved
loop-d-preserved c =
    objects_next c.args.typer.now c.loop-d.typer c.object.new.typer c.args.globals.now c.loop-d.globals c.object.new.globals c.args.common.ty c.args.common.constant c.args.ds.now c.loop-d.d-index c.d-item.result
    c.loop-d-test.true c.d-item.is c.loop-d.invariant c.in_ok-object.ensures
