use Rattle.std.proofs.Common.{arith, subst}
use Rattle.std.specs.Prelude.{All}
use Rattle.std.proofs.lemmas.List.{take_all}
use Rattle.std.proofs.lemmas.List.Elements.{All-more}
use Rattle.joint_ir.specs.declared.module.Site.{Site}
use Rattle.joint_ir.specs.WellFormed.{FitsSite}
use Rattle.pair_checks.proofs.modules.are_sites.Goals as goal

pub loop-site-preserved : goal.loop-site-preserved
loop-site-preserved c =
    let d : Site = record { bits = 0 } in
    All-more FitsSite c.args.sites.now c.loop-site.site-index d c.loop-site-test.true c.loop-site.invariant
    (record { some = omega (arith, c.if-site-lt1.false); few = omega (arith, c.if-site-gt64.false) })

pub returns : goal.returns
returns c = λ yes. subst (All FitsSite) (take_all c.loop-site.site-index c.args.sites.now c.loop-site-test.false) c.loop-site.invariant
