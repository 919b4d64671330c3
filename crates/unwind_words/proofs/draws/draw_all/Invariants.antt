use Rattle.std.proofs.Common.{take}
use Rattle.joint_ir.specs.Effects.{draw_all}
use Rattle.unwind_module.specs.Drawing.{AreDrawn}
use Rattle.unwind_words.proofs.draws.draw_all.Given as goal

abbrev pub invariant-loop-width : goal.invariant-loop-width
invariant-loop-width l = AreDrawn l.fn.net l.net l.guard (draw_all (take l.width-index l.widths)) (take l.width-index l.widths) l.ids
