use Rattle.c_structs.specs.Lists.{lists_of}
use Rattle.c_structs.proofs.Walking.{enter_first, walk_next, walk_fewer}
use Rattle.c_structs.proofs.depths.members_of.Goals as goal

pub loop-frame-init : goal.loop-frame-init
loop-frame-init c = enter_first (lists_of c.args.lists.now) c.args.object.now c.args.tag _ _ _ c.new-members.ensures c.new-stack.ensures c.in_ok-enter.ensures

pub loop-frame-smaller : goal.loop-frame-smaller
loop-frame-smaller c = walk_fewer (lists_of c.args.lists.now) c.loop-frame.stack _ c.step.new.stack c.in-Some.frame c.in-Some.ensures c.in_ok-step.ensures.stack

pub loop-frame-preserved : goal.loop-frame-preserved
loop-frame-preserved c =
    walk_next (lists_of c.args.lists.now) _ c.loop-frame.members c.step.new.members c.loop-frame.stack _ c.step.new.stack c.in-Some.frame
    c.loop-frame.invariant c.in-Some.ensures c.in_ok-step.ensures.stack c.in_ok-step.ensures.members
