use Rattle.c_statements.proofs.Declaring.{measured}
use Rattle.c_statements.proofs.walk.Typer.measure.Goals as goal

pub returns-in_ok-c-in-InitializedArray-clause-goes : goal.returns-in_ok-c-in-InitializedArray-clause-goes
returns-in_ok-c-in-InitializedArray-clause-goes c =
    measured c.args.self.now c.read_length-in-InitializedArray.new.notes c.note_excess.new.notes c.args.d.now _ _ _ _ _
    c.in-InitializedArray.is c.as_slice.ensures c.in_ok-c-in-InitializedArray.ensures c.note_excess.ensures
