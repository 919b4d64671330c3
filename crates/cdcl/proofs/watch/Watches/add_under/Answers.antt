use Rattle.std.proofs.Common.{List, ◌∷◌, [], ◌++◌, ap, ◌∙◌}
use Rattle.clause_arena.specs.declared.ClauseId.{ClauseId}
use Rattle.cdcl.specs.Table.{Table}
use Rattle.cdcl.specs.Watched.{slot_of, listed}
use Rattle.cdcl.proofs.Lists.{put-list, item-list}
use Rattle.cdcl.proofs.watch.Watches.add_under.Goals as goal

pub returns-clause-lists : goal.returns-clause-lists
returns-clause-lists c =
    let e = ap (λ (t : Table). t.lists) c.self.view_is in
    put-list c.self.inside.lists.items c.args.self.now.lists c.slot.result (slot_of c.args.l) c.push.new.self (listed c.args.self.now.lists c.args.l ++ c.args.id ∷ []) e c.slot.ensures
    (c.in_ok-push.ensures.items
    ∙ ap (λ (xs : List ClauseId). xs ++ c.args.id ∷ []) (item-list c.self.inside.lists.items c.args.self.now.lists c.slot.result (slot_of c.args.l) c.index_mut.result.now e c.slot.ensures c.index_mut.ensures.value c.requires))
