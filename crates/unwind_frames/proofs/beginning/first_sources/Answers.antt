use Rattle.std.proofs.Common.{List, refl, subst, arith}
use Rattle.joint_ir.specs.declared.module.Role.TheVariants.{Input}
use Rattle.joint_ir.specs.declared.module.Signal.{Signal}
use Rattle.joint_ir.specs.declared.module.Site.{Site}
use Rattle.joint_ir.specs.Effects.{draw_all}
use Rattle.joint_ir.specs.Views.{widths_of, site_widths}
use Rattle.unrolled.specs.declared.Unrolled.{Unrolled}
use Rattle.unwind_state.specs.declared.state.Guard.TheVariants.{Always}
use Rattle.unwind_module.specs.Drawing.{AreDrawn}
use Rattle.unwind_words.proofs.Drawn.{first_known}
use Rattle.unwind_frames.proofs.Firstly.{sources_first}
use Rattle.unwind_frames.proofs.beginning.first_sources.Goals as goal

pub returns : goal.returns
returns c =
    let p = c.args.pair.now in
    let n0 = c.args.net.now in
    let n1 = c.first_registers.new.net in
    let n2 = c.draw_inputs.new.net in
    let n3 = c.draw_sites.new.net in
    let n4 : Unrolled = record { terms = c.constant.new.terms; list = n3.list } in
    let B = subst (λ (l : List Signal). AreDrawn n1 n2 Always (draw_all (widths_of Input l)) (widths_of Input l) c.in_ok-inputs.inputs) c.as_slice.ensures c.in_ok-inputs.ensures in
    let C = subst (λ (l : List Site). AreDrawn n2 n3 Always (draw_all (site_widths l)) (site_widths l) c.in_ok-unknown.unknown) c.as_slice-2.ensures c.in_ok-unknown.ensures in
    sources_first p n0 n1 n2 n3 n4 c.in_ok-registers.registers c.in_ok-inputs.inputs c.in_ok-unknown.unknown c.in_ok-edges.edges c.in_ok-registers.ensures B C (first_known n3 n4 32 0 c.in_ok-edges.edges c.in_ok-edges.ensures refl (omega arith))
