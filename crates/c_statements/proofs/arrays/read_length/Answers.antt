use Rattle.c_statements.proofs.Declaring.{length_told}
use Rattle.c_statements.proofs.arrays.read_length.Goals as goal

pub returns : goal.returns
returns c =
    length_told c.args.scopes.now c.args.notes.now c.constant_in.new.notes c.note_range.new.notes c.args.e.now c.expression_place-place.result c.in_ok-c.c
    c.expression_place-place.ensures c.in_ok-c.ensures c.note_range.ensures
