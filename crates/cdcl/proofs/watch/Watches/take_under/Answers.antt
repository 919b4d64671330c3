use Rattle.std.proofs.Common.{ap}
use Rattle.cdcl.specs.Table.{Table}
use Rattle.cdcl.specs.Watched.{slot_of}
use Rattle.cdcl.proofs.Lists.{removed-list}
use Rattle.cdcl.proofs.watch.Watches.take_under.Goals as goal

pub returns-clause-lists : goal.returns-clause-lists
returns-clause-lists c d q =
    removed-list c.self.inside.lists.items c.args.self.now.lists c.slot.result (slot_of c.args.l) c.args.i c.index_mut.result.now c.swap_remove.new.self c.swap_remove.result d
    (ap (λ (t : Table). t.lists) c.self.view_is) c.slot.ensures c.index_mut.ensures.value c.requires.slot c.swap_remove.ensures.value c.swap_remove.ensures.items c.requires.place q
