use Rattle.joint_ir.specs.declared.way.Way.TheVariants.{Next, Breaking, Continuing}
use Rattle.unwind_state.proofs.Gates.{guard_kept, gathered_made}
use Rattle.unwind_state.proofs.guards.gathered.Goals as goal

pub or-requires-clause-first : goal.or-requires-clause-first
or-requires-clause-first c = c.requires Next

pub or-requires-clause-second : goal.or-requires-clause-second
or-requires-clause-second c = c.requires Breaking

pub or-requires-2-clause-second : goal.or-requires-2-clause-second
or-requires-2-clause-second c = guard_kept c.args.net.now c.or.new.net c.args.a.continuing c.in_ok-first.ensures.adds (c.requires Continuing)

pub returns : goal.returns
returns c = gathered_made c.args.net.now c.or.new.net c.or-2.new.net c.args.a c.in_ok-first.first c.in_ok-next.next c.requires c.in_ok-first.ensures c.in_ok-next.ensures
