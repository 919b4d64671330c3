use Rattle.c_objects.proofs.Going.{array_goes}
use Rattle.c_objects.proofs.array.Goals as goal

pub returns : goal.returns
returns c =
    array_goes c.args.typer.now c.begin.new.self c.finish.new.typer c.read_length.new.notes c.args.globals.now c.finish.new.globals c.args.common.ty c.args.common.constant c.args.name.now c.args.length.now _ _ _
    c.in_ok-c.ensures c.in_ok-begin.ensures c.array_length.ensures c.in_ok-finish.ensures.goes c.new-firsts.ensures c.in_ok-finish.ensures.globals
