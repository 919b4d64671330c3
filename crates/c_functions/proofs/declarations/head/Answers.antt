use Rattle.c_functions.proofs.Declaring.{head_goes}
use Rattle.c_functions.proofs.declarations.head.Goals as goal

pub returns : goal.returns
returns c =
    head_goes c.args.typer.now c.note_before.new.typer c.note_known.new.typer c.note_main.new.typer c.declare.new.typer c.args.names.now c.args.head.now
    c.in_ok-note_before.ensures c.note_known.ensures c.note_main.ensures c.in_ok-declare.ensures
