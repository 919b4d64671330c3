use Rattle.bind_struct.specs.Paths.{named}
use Rattle.bind_struct.proofs.Linking.{links_next, links_stop}
use Rattle.bind_struct.proofs.members.links.Goals as goal

pub loop-i-preserved : goal.loop-i-preserved
loop-i-preserved c =
    links_next c.args.flat.now (named c.args.paths.now) c.args.members.now c.loop-i.i c.index-members-i.result c.loop-i.links _
    c.loop-i-test.true c.index-members-i.is c.loop-i.invariant c.in_default.ensures c.in_ok-add_link.ensures.ok

pub returns-in-Some-clause-refused : goal.returns-in-Some-clause-refused
returns-in-Some-clause-refused c =
    links_stop c.args.flat.now (named c.args.paths.now) c.args.members.now c.loop-i.i c.index-members-i.result _ _
    c.loop-i-test.true c.index-members-i.is c.loop-i.invariant.1 c.in-Some.ensures c.refused.ensures
