use Rattle.std.proofs.Common.{refl}
use Rattle.expression_steps.proofs.Stretches.{split_made}
use Rattle.expression_steps.proofs.steps.split_by.Goals as goal

pub returns : goal.returns
returns c =
    split_made c.args.net.now (record { terms = c.two-2.new.terms; list = c.args.net.now.list }) c.is_set.new.terms c.one.new.terms c.two.new.terms c.args.guard c.args.x c.in_ok-set.set c.in_ok-unset.unset c.in_ok-taken.taken c.in_ok-other.other
    c.requires.guard c.requires.bit refl c.in_ok-set.ensures c.in_ok-unset.ensures c.in_ok-taken.ensures c.in_ok-other.ensures
