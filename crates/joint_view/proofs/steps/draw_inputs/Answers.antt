use Rattle.std.proofs.Common.{sym, ap, ◌∙◌, subst}
use Rattle.std.specs.Prelude.{All}
use Rattle.joint_ir.specs.declared.module.Role.TheVariants.{Input}
use Rattle.joint_ir.specs.Views.{widths_of}
use Rattle.joint_view.specs.Conditions.{IsNarrow}
use Rattle.joint_view.proofs.Fitting.{widths_narrow}
use Rattle.joint_view.proofs.steps.draw_inputs.Goals as goal

pub draw_all-requires : goal.draw_all-requires
draw_all-requires c =
    subst (All IsNarrow) (sym (c.as_slice-2.ensures ∙ c.in_ok-widths.ensures.value ∙ ap (widths_of Input) c.as_slice.ensures))
    (widths_narrow Input c.args.flat.now.signals c.requires.signals)
