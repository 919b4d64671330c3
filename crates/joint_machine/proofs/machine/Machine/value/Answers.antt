use Rattle.std.proofs.Common.{◌<◌, ◌^◌, rules}
use Rattle.joint_machine.proofs.Values.{evaluable, found_in}
use Rattle.joint_machine.proofs.machine.Machine.value.Goals as goal

pub value-requires : goal.value-requires
value-requires c =
    let few : c.args.at.now.bounds.now.frames < 2 ^ 32 = search rules in
    evaluable _ _ _ _ _ c.requires.fits c.requires.well few c.requires.ready

pub returns-clause-range : goal.returns-clause-range
returns-clause-range c =
    let few : c.args.at.now.bounds.now.frames < 2 ^ 32 = search rules in
    found_in _ _ _ _ c.args.e.now _ _ c.requires.fits c.requires.well few c.requires.ready c.value.ensures c.or_break.ensures.number
