use Rattle.std.proofs.Common.{sym, ap, ◌∙◌, subst}
use Rattle.std.specs.Prelude.{All}
use Rattle.joint_ir.specs.declared.module.Role.TheVariants.{Register}
use Rattle.joint_ir.specs.Views.{widths_of}
use Rattle.joint_view.specs.Conditions.{IsNarrow}
use Rattle.joint_view.proofs.Fitting.{widths_narrow}
use Rattle.joint_view.proofs.steps.draw_registers.Goals as goal

pub draw_registers-requires-clause-widths : goal.draw_registers-requires-clause-widths
draw_registers-requires-clause-widths c =
    subst (All IsNarrow) (sym (c.as_slice-3.ensures ∙ c.in_ok-widths.ensures.value ∙ ap (widths_of Register) c.as_slice.ensures))
    (widths_narrow Register c.args.flat.now.signals c.requires.signals)
