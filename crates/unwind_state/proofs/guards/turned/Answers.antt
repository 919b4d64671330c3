use Rattle.joint_ir.specs.declared.way.Way.TheVariants.{Next, Continuing}
use Rattle.unwind_state.proofs.Gates.{turned_made}
use Rattle.unwind_state.proofs.guards.turned.Goals as goal

pub or-requires-clause-first : goal.or-requires-clause-first
or-requires-clause-first c = c.requires Next

pub or-requires-clause-second : goal.or-requires-clause-second
or-requires-clause-second c = c.requires Continuing

pub returns : goal.returns
returns c = turned_made c.args.net.now c.or.new.net c.args.a c.in_ok-next.next c.requires c.in_ok-next.ensures
