use Rattle.std.proofs.Common.{subst}
use Rattle.std.specs.Prelude.{All}
use Rattle.std.proofs.lemmas.List.{take_all}
use Rattle.std.proofs.lemmas.List.Elements.{All-more}
use Rattle.joint_ir.specs.WellFormed.{FitsLink}
use Rattle.pair_checks.proofs.links.are_links.Goals as goal

pub loop-link-preserved : goal.loop-link-preserved
loop-link-preserved c =
    All-more (FitsLink c.args.pair.now) c.args.links.now c.loop-link.link-index _ c.loop-link-test.true c.loop-link.invariant (c.is_link.ensures c.if-not-is_link.false)

pub returns : goal.returns
returns c = λ yes. subst (All (FitsLink c.args.pair.now)) (take_all c.loop-link.link-index c.args.links.now c.loop-link-test.false) c.loop-link.invariant
