use Rattle.std.proofs.Common.{take}
use Rattle.joint_ir.specs.Runs.{draw_registers}
use Rattle.unwind_state.specs.declared.state.Guard.TheVariants.{Always}
use Rattle.unwind_module.specs.Drawing.{AreDrawn}
use Rattle.unwind_words.proofs.draws.draw_registers.Given as goal

abbrev pub invariant-loop-k : goal.invariant-loop-k
invariant-loop-k l = AreDrawn l.fn.net l.net Always (draw_registers (take l.k l.firsts) (take l.k l.widths)) (take l.k l.widths) l.ids
