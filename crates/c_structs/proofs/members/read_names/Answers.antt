use Rattle.c_structs.proofs.Reading.{names_next}
use Rattle.c_structs.proofs.members.read_names.Goals as goal

pub loop-name-preserved : goal.loop-name-preserved
loop-name-preserved c =
    names_next c.args.tag c.args.names.now c.loop-name.name-index c.name-item.result c.args.notes.now c.loop-name.notes c.add.new.notes c.args.reading.now c.loop-name.reading c.add.new.self
    c.loop-name-test.true c.name-item.is c.loop-name.invariant c.in_ok-add.ensures.reading c.in_ok-add.ensures.notes
