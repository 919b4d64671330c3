use Rattle.std.proofs.Common.{subst}
use Rattle.std.specs.Prelude.{All}
use Rattle.std.proofs.lemmas.List.{take_all}
use Rattle.std.proofs.lemmas.List.Elements.{All-more}
use Rattle.pair_checks.specs.Bound.{IsApart}
use Rattle.pair_checks.proofs.links.are_apart.Goals as goal

pub loop-link-preserved : goal.loop-link-preserved
loop-link-preserved c =
    All-more (IsApart c.args.all.now) c.args.links.now c.loop-link.link-index _ c.loop-link-test.true c.loop-link.invariant (c.is_apart.ensures c.if-not-is_apart.false)

pub returns : goal.returns
returns c = λ yes. subst (All (IsApart c.args.all.now)) (take_all c.loop-link.link-index c.args.links.now c.loop-link-test.false) c.loop-link.invariant
