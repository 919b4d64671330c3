-- The view in which a run begins.
use Rattle.joint_ir.specs.declared.module.Role.TheVariants.{Input, Register}
use Rattle.joint_ir.specs.declared.pair.Pair.{Pair}
use Rattle.joint_ir.specs.Effects.{draw_all}
use Rattle.joint_ir.specs.Runs.{draw_registers}
use Rattle.joint_ir.specs.Views.{widths_of, site_widths}
use Rattle.unrolled.specs.declared.Unrolled.{Unrolled}
use Rattle.unwind_state.specs.declared.state.Guard.TheVariants.{Always}
use Rattle.unwind_state.specs.Writing.{IsChosen}
use Rattle.unwind_module.specs.Drawing.{AreDrawn}
use Rattle.unwind_frames.specs.declared.beginning.FirstView.{FirstView}
use Rattle.unwind_frames.specs.declared.views.Sources.{Sources}
use Rattle.unwind_frames.specs.Frames.{HasSources, IsShown}

-- the registers without a first value, the inputs and the unknown words of the settling were drawn, in that order, and no edge was taken
pub record AreFirstSources (p : Pair) (n0 n4 : Unrolled) (x : Sources) : Type 0 where
  pub n1 : Unrolled
  pub n2 : Unrolled
  pub n3 : Unrolled
  pub registers_ : AreDrawn n0 n1 Always (draw_registers p.module.firsts (widths_of Register p.module.signals)) (widths_of Register p.module.signals) x.registers
  pub inputs_ : AreDrawn n1 n2 Always (draw_all (widths_of Input p.module.signals)) (widths_of Input p.module.signals) x.inputs
  pub unknown_ : AreDrawn n2 n3 Always (draw_all (site_widths p.module.settle_sites)) (site_widths p.module.settle_sites) x.unknown
  pub edges_ : IsChosen n3 n4 32 x.edges (λ v. 0)
  pub typed : HasSources p n4.terms x

-- a run's first view is made of these words, its wires are settled, and the mirror is filled from it
pub record IsFirstView (p : Pair) (n0 n2 : Unrolled) (made : FirstView) : Type 0 where
  pub n1 : Unrolled
  pub drawn : AreFirstSources p n0 n1 made.sources
  pub filled_ : IsShown p n1 n2 made.sources made.filled
