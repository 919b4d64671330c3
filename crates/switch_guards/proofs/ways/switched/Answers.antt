use Rattle.joint_ir.specs.declared.way.Way.TheVariants.{Next, Breaking}
use Rattle.switch_guards.proofs.Flows.{switched_made}
use Rattle.switch_guards.proofs.ways.switched.Goals as goal

pub or-requires-clause-first : goal.or-requires-clause-first
or-requires-clause-first c = c.requires Next

pub or-requires-clause-second : goal.or-requires-clause-second
or-requires-clause-second c = c.requires Breaking

pub returns : goal.returns
returns c = switched_made c.args.net.now c.or.new.net c.args.ways c.in_ok-next.next c.requires c.in_ok-next.ensures
