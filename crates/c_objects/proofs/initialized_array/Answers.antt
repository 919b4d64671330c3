use Rattle.c_objects.proofs.Going.{initialized_array_goes}
use Rattle.c_objects.proofs.initialized_array.Goals as goal

pub returns : goal.returns
returns c =
    initialized_array_goes c.args.typer.now c.begin.new.self c.finish.new.typer c.read_length.new.notes c.note_excess.new.notes c.elements.new.notes c.args.globals.now c.finish.new.globals c.args.common.ty c.args.common.constant c.args.name.now
    c.args.length.now c.args.es.now _ _ _ c.in_ok-c.ensures c.note_excess.ensures c.in_ok-begin.ensures c.in_ok-firsts.ensures c.array_length.ensures c.in_ok-finish.ensures.goes c.in_ok-finish.ensures.globals
