use Rattle.std.proofs.Common.{sym, ◌∙◌, subst}
use Rattle.std.specs.Prelude.{All}
use Rattle.joint_view.specs.Conditions.{IsNarrow}
use Rattle.joint_view.proofs.Fitting.{sites_narrow}
use Rattle.unwind_frames.proofs.draws.draw_sites.Goals as goal

pub draw_all-requires-clause-widths : goal.draw_all-requires-clause-widths
draw_all-requires-clause-widths c = subst (λ l. All IsNarrow l) (sym (c.as_slice.ensures ∙ c.in_ok-widths.ensures)) (sites_narrow c.args.sites.now c.requires.sites)
