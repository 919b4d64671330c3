use Rattle.c_functions.proofs.Params.{params_next}
use Rattle.c_functions.proofs.definitions.params.Goals as goal

pub loop-p-preserved : goal.loop-p-preserved
loop-p-preserved c =
    params_next c.args.typer.now c.loop-p.typer c.param.new.typer c.args.ps.now c.loop-p.p-index c.p-item.result
    c.loop-p-test.true c.p-item.is c.loop-p.invariant c.in_ok-param.ensures
