use Rattle.switch_guards.proofs.Placing.{hits_first, hits_more}
use Rattle.switch_guards.proofs.entries.hits.Goals as goal

pub loop-group-init : goal.loop-group-init
loop-group-init c = hits_first c.args.net.now c.args.ty c.args.value c.args.guard c.args.groups.now c.new-entered.result.items c.new-entered.ensures.items c.len.ensures.proper c.requires.guard

pub loop-group-preserved : goal.loop-group-preserved
loop-group-preserved c =
    hits_more c.args.net.now c.loop-group.net c.is_label.new.net c.split.new.net c.args.ty c.args.value c.args.guard c.args.groups.now c.loop-group.group-index c.group-item.result c.as_slice.result.now c.loop-group.entered.items c.push.new.self.items c.loop-group.past c.in_ok-set.set c.in_ok-sides.sides
    c.loop-group-test.true c.group-item.is c.as_slice.ensures c.in-Ok.ensures.items c.loop-group.invariant c.in_ok-set.ensures c.in_ok-sides.ensures c.requires.guard
