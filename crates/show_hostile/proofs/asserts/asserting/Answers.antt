use Rattle.show_hostile.proofs.Checking.{asserting_as}
use Rattle.show_hostile.proofs.asserts.asserting.Goals as goal

pub returns : goal.returns
returns c = asserting_as c.args.count c.requires c.in_ok-program.ensures c.in_ok-beside_nothing.ensures
