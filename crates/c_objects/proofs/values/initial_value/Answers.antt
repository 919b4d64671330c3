use Rattle.c_objects.proofs.Going.{called_goes, told_goes}
use Rattle.offence_order.specs.Order.{at}
use Rattle.src_text.specs.declared.kind.Kind.TheVariants.{CConstant}
use Rattle.c_objects.proofs.values.initial_value.Goals as goal

pub returns-in_ok-note_call-in-Called-clause-goes : goal.returns-in_ok-note_call-in-Called-clause-goes
returns-in_ok-note_call-in-Called-clause-goes c =
    called_goes c.args.typer.now c.note_call.new.typer _ c.args.init.now c.in-Called.call c.in-Called.is c.in_ok-note_call-in-Called.ensures (told_goes c.note_call.new.typer c.offence.new.self (at c.in-Called.call.name.place CConstant) c.offence.ensures)
