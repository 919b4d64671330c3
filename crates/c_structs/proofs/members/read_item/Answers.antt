use Rattle.c_structs.proofs.Reading.{item_told}
use Rattle.c_structs.proofs.members.read_item.Goals as goal

pub returns-clause-notes : goal.returns-clause-notes
returns-clause-notes c =
    item_told c.args.scopes.now c.args.reading.now.names c.args.item.now c.item_name.result.now c.args.notes.now c.item_length.new.notes c.add.new.notes
    c.item_name.ensures c.in_ok-length.ensures.notes c.in_ok-add.ensures.notes
