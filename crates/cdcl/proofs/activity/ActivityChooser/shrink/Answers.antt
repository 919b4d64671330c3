use Rattle.cdcl.proofs.Picks.{small-divided}
use Rattle.cdcl.proofs.activity.ActivityChooser.shrink.Goals as goal

pub invariant_of-self-clause-small : goal.invariant_of-self-clause-small
invariant_of-self-clause-small c = small-divided c.args.self.now.ranks.numbers.items c.divide.new.self.numbers.items 1152921504606846976 c.divide.ensures.numbers c.args.self.now.small
