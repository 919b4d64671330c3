use Rattle.std.proofs.Common.{sym, ◌∙◌, subst}
use Rattle.std.specs.Prelude.{All}
use Rattle.joint_view.specs.Conditions.{IsNarrow}
use Rattle.joint_view.proofs.Fitting.{sites_narrow}
use Rattle.joint_view.proofs.steps.draw_sites.Goals as goal

pub draw_all-requires : goal.draw_all-requires
draw_all-requires c = subst (All IsNarrow) (sym (c.as_slice.ensures ∙ c.in_ok-widths.ensures)) (sites_narrow c.args.sites.now c.requires)
