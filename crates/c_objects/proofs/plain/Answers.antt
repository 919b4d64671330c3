use Rattle.c_objects.proofs.Going.{plain_goes}
use Rattle.c_objects.proofs.plain.Goals as goal

pub returns : goal.returns
returns c =
    plain_goes c.args.typer.now c.begin.new.self c.finish.new.typer c.args.globals.now c.finish.new.globals c.args.common.ty c.args.common.constant c.args.name.now _
    c.in_ok-begin.ensures c.in_ok-finish.ensures.goes c.new.ensures c.in_ok-finish.ensures.globals
