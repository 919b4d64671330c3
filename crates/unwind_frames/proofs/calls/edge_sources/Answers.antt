use Rattle.joint_ir.specs.declared.module.Role.TheVariants.{Input, Register}
use Rattle.joint_ir.specs.Views.{widths_of, site_widths}
use Rattle.unwind_state.proofs.Gates.{adds_none, adds_then}
use Rattle.unwind_module.proofs.Terms.{grows_adds, terms_kept}
use Rattle.unwind_frames.proofs.Slices.{alike_grown, chosen_slices, next_slices}
use Rattle.unwind_frames.proofs.Moving.{sources_made}
use Rattle.unwind_frames.proofs.calls.edge_sources.Goals as goal

pub choose_all-requires-clause-alike : goal.choose_all-requires-clause-alike
choose_all-requires-clause-alike c =
    let m = c.args.flat.now in
    let s = c.args.state.now in
    let d = c.args.drawn.now in
    let g = c.args.guard in
    let H = c.requires.words in
    let n0 = c.args.net.now in
    let n1 = c.next_registers.new.net in
    let new = c.in_ok-new.new in
    let N = next_slices m n0 n1 s.registers s.inputs s.wires d.at_edge c.as_slice.result.now c.as_slice-2.result.now c.as_slice-3.result.now c.as_slice-4.result.now new c.as_slice.ensures c.as_slice-2.ensures c.as_slice-3.ensures c.as_slice-4.ensures c.in_ok-new.ensures in
    let ws = widths_of Register m.signals in
    alike_grown n1 n1 new s.registers c.as_slice-5.result.now c.as_slice-6.result.now ws (adds_none n1 N.adds.proper) N.terms (terms_kept n0.terms n1.terms s.registers ws (grows_adds n0 n1 N.adds) H.registers_) c.as_slice-5.ensures c.as_slice-6.ensures

pub choose_all-requires-2-clause-alike : goal.choose_all-requires-2-clause-alike
choose_all-requires-2-clause-alike c =
    let m = c.args.flat.now in
    let s = c.args.state.now in
    let d = c.args.drawn.now in
    let g = c.args.guard in
    let H = c.requires.words in
    let n0 = c.args.net.now in
    let n1 = c.next_registers.new.net in
    let new = c.in_ok-new.new in
    let N = next_slices m n0 n1 s.registers s.inputs s.wires d.at_edge c.as_slice.result.now c.as_slice-2.result.now c.as_slice-3.result.now c.as_slice-4.result.now new c.as_slice.ensures c.as_slice-2.ensures c.as_slice-3.ensures c.as_slice-4.ensures c.in_ok-new.ensures in
    let n2 = c.choose_all.new.net in
    let R = chosen_slices n1 n2 g new s.registers c.as_slice-5.result.now c.as_slice-6.result.now c.in_ok-registers.registers c.as_slice-5.ensures c.as_slice-6.ensures c.in_ok-registers.ensures in
    let L02 = adds_then n0 n1 n2 N.adds R.adds in
    alike_grown n0 n2 d.inputs s.inputs c.as_slice-7.result.now c.as_slice-8.result.now (widths_of Input m.signals) L02 H.new_inputs H.inputs_ c.as_slice-7.ensures c.as_slice-8.ensures

pub choose_all-requires-3-clause-alike : goal.choose_all-requires-3-clause-alike
choose_all-requires-3-clause-alike c =
    let m = c.args.flat.now in
    let s = c.args.state.now in
    let d = c.args.drawn.now in
    let g = c.args.guard in
    let H = c.requires.words in
    let n0 = c.args.net.now in
    let n1 = c.next_registers.new.net in
    let new = c.in_ok-new.new in
    let N = next_slices m n0 n1 s.registers s.inputs s.wires d.at_edge c.as_slice.result.now c.as_slice-2.result.now c.as_slice-3.result.now c.as_slice-4.result.now new c.as_slice.ensures c.as_slice-2.ensures c.as_slice-3.ensures c.as_slice-4.ensures c.in_ok-new.ensures in
    let n2 = c.choose_all.new.net in
    let R = chosen_slices n1 n2 g new s.registers c.as_slice-5.result.now c.as_slice-6.result.now c.in_ok-registers.registers c.as_slice-5.ensures c.as_slice-6.ensures c.in_ok-registers.ensures in
    let L02 = adds_then n0 n1 n2 N.adds R.adds in
    let n3 = c.choose_all-2.new.net in
    let I = chosen_slices n2 n3 g d.inputs s.inputs c.as_slice-7.result.now c.as_slice-8.result.now c.in_ok-inputs.inputs c.as_slice-7.ensures c.as_slice-8.ensures c.in_ok-inputs.ensures in
    let L03 = adds_then n0 n2 n3 L02 I.adds in
    alike_grown n0 n3 d.unknown s.unknown c.as_slice-9.result.now c.as_slice-10.result.now (site_widths m.settle_sites) L03 H.new_unknown H.unknown_ c.as_slice-9.ensures c.as_slice-10.ensures

pub returns : goal.returns
returns c =
    let m = c.args.flat.now in
    let s = c.args.state.now in
    let d = c.args.drawn.now in
    let g = c.args.guard in
    let H = c.requires.words in
    let n0 = c.args.net.now in
    let n1 = c.next_registers.new.net in
    let new = c.in_ok-new.new in
    let N = next_slices m n0 n1 s.registers s.inputs s.wires d.at_edge c.as_slice.result.now c.as_slice-2.result.now c.as_slice-3.result.now c.as_slice-4.result.now new c.as_slice.ensures c.as_slice-2.ensures c.as_slice-3.ensures c.as_slice-4.ensures c.in_ok-new.ensures in
    let n2 = c.choose_all.new.net in
    let R = chosen_slices n1 n2 g new s.registers c.as_slice-5.result.now c.as_slice-6.result.now c.in_ok-registers.registers c.as_slice-5.ensures c.as_slice-6.ensures c.in_ok-registers.ensures in
    let L02 = adds_then n0 n1 n2 N.adds R.adds in
    let n3 = c.choose_all-2.new.net in
    let I = chosen_slices n2 n3 g d.inputs s.inputs c.as_slice-7.result.now c.as_slice-8.result.now c.in_ok-inputs.inputs c.as_slice-7.ensures c.as_slice-8.ensures c.in_ok-inputs.ensures in
    let L03 = adds_then n0 n2 n3 L02 I.adds in
    let n4 = c.choose_all-3.new.net in
    let U = chosen_slices n3 n4 g d.unknown s.unknown c.as_slice-9.result.now c.as_slice-10.result.now c.in_ok-unknown.unknown c.as_slice-9.ensures c.as_slice-10.ensures c.in_ok-unknown.ensures in
    sources_made m n0 n1 n2 n3 n4 c.counted.new.net s d g new c.in_ok-registers.registers c.in_ok-inputs.inputs c.in_ok-unknown.unknown c.in_ok-edges.edges H N R I U c.in_ok-edges.ensures
