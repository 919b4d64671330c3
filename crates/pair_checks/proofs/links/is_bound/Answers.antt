use Rattle.pair_checks.proofs.Testing.{bound}
use Rattle.pair_checks.proofs.links.is_bound.Goals as goal

pub returns : goal.returns
returns c = λ yes. bound c.args.pair.now _ _ c.as_slice-links.ensures c.all_members.ensures
    (c.are_links.ensures c.if-not-are_links.false) (c.have_links.ensures c.if-not-have_links.false) (c.are_apart.ensures yes)
