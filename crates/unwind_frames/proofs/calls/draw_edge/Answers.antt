use Rattle.std.proofs.Common.{List, subst}
use Rattle.joint_ir.specs.declared.module.Role.TheVariants.{Input}
use Rattle.joint_ir.specs.declared.module.Signal.{Signal}
use Rattle.joint_ir.specs.declared.module.Site.{Site}
use Rattle.joint_ir.specs.Effects.{draw_all}
use Rattle.joint_ir.specs.Views.{site_widths, widths_of}
use Rattle.unwind_module.specs.Drawing.{AreDrawn}
use Rattle.unwind_frames.proofs.calls.draw_edge.Goals as goal

pub returns : goal.returns
returns c =
    let n0 = c.args.net.now in
    let n1 = c.draw_sites.new.net in
    let n2 = c.draw_inputs.new.net in
    let n3 = c.draw_sites-2.new.net in
    let g = c.args.guard in
    record {
      n1 = n1;
      n2 = n2;
      at_edge_ = subst (λ (l : List Site). AreDrawn n0 n1 g (draw_all (site_widths l)) (site_widths l) c.in_ok-at_edge.at_edge) c.as_slice.ensures c.in_ok-at_edge.ensures;
      inputs_ = subst (λ (l : List Signal). AreDrawn n1 n2 g (draw_all (widths_of Input l)) (widths_of Input l) c.in_ok-inputs.inputs) c.as_slice-2.ensures c.in_ok-inputs.ensures;
      unknown_ = subst (λ (l : List Site). AreDrawn n2 n3 g (draw_all (site_widths l)) (site_widths l) c.in_ok-unknown.unknown) c.as_slice-3.ensures c.in_ok-unknown.ensures;
    }
