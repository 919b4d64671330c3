use Rattle.c_functions.proofs.Params.{names_next}
use Rattle.c_functions.proofs.declarations.parameter_names.Goals as goal

pub loop-p-preserved : goal.loop-p-preserved
loop-p-preserved c =
    names_next c.args.typer.now c.loop-p.typer c.parameter_name.new.typer c.args.ps.now c.loop-p.p-index c.p-item.result
    c.loop-p-test.true c.p-item.is c.loop-p.invariant c.in_ok-parameter_name.ensures
