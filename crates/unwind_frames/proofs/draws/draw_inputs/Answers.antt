use Rattle.std.proofs.Common.{sym, ◌∙◌, subst}
use Rattle.std.specs.Prelude.{All}
use Rattle.joint_ir.specs.declared.module.Role.TheVariants.{Input}
use Rattle.joint_view.specs.Conditions.{IsNarrow}
use Rattle.joint_view.proofs.Fitting.{widths_narrow}
use Rattle.unwind_frames.proofs.draws.draw_inputs.Goals as goal

pub draw_all-requires-clause-widths : goal.draw_all-requires-clause-widths
draw_all-requires-clause-widths c = subst (λ l. All IsNarrow l) (sym (c.as_slice.ensures ∙ c.in_ok-widths.ensures.value)) (widths_narrow Input c.args.signals.now c.requires.signals)
