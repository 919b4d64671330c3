use Rattle.c_structs.proofs.Reading.{items_next}
use Rattle.c_structs.proofs.members.read_items.Goals as goal

pub loop-item-preserved : goal.loop-item-preserved
loop-item-preserved c =
    items_next c.args.scopes.now c.args.ty c.args.items.now c.loop-item.item-index c.item-item.result c.args.notes.now c.loop-item.notes c.read_item.new.notes c.args.reading.now c.loop-item.reading c.read_item.new.reading
    c.loop-item-test.true c.item-item.is c.loop-item.invariant c.in_ok-read_item.ensures.reading c.in_ok-read_item.ensures.notes
