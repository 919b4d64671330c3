use Rattle.std.proofs.Common.{◌≤◌, length, List, sym, subst}
use Rattle.res_log.specs.declared.ChainStep.{ChainStep}
use Rattle.res_log.proofs.Parts.{entry-at}
use Rattle.res_log.proofs.Log.rest.Goals as goal

pub part_of-requires-clause-start : goal.part_of-requires-clause-start
part_of-requires-clause-start c =
    (entry-at c.self.inside.links.items c.self.inside.entries.items c.args.at c.index-entry.result.now c.args.self.now c.self.view_is c.self.invariant c.index-entry.ensures c.requires).0

pub part_of-requires-clause-end : goal.part_of-requires-clause-end
part_of-requires-clause-end c =
    subst (λ (x : List ChainStep). c.index-entry.result.now.to ≤ length x) (sym c.deref.ensures.value)
    (entry-at c.self.inside.links.items c.self.inside.entries.items c.args.at c.index-entry.result.now c.args.self.now c.self.view_is c.self.invariant c.index-entry.ensures c.requires).1
