use Rattle.joint_ir.specs.declared.way.Way.TheVariants.{Next}
use Rattle.switch_guards.proofs.Flows.{entered_made}
use Rattle.switch_guards.proofs.ways.entered.Goals as goal

pub or-requires-clause-first : goal.or-requires-clause-first
or-requires-clause-first c = c.requires.ways Next

pub returns : goal.returns
returns c = entered_made c.args.net.now c.or.new.net c.args.ways c.args.entry c.in_ok-next.next c.requires.ways c.in_ok-next.ensures
