use Rattle.std.proofs.Common.{subst}
use Rattle.unwind_words.specs.Rows.{HasMirror}
use Rattle.unwind_frames.proofs.Slices.{settled_slices, signals_slices, view_terms}
use Rattle.unwind_frames.proofs.Refreshing.{view_made}
use Rattle.unwind_frames.proofs.views.filled_view.Goals as goal

pub signal_rows-requires-clause-terms : goal.signal_rows-requires-clause-terms
signal_rows-requires-clause-terms c =
    let p = c.args.pair.now in
    let x = c.args.sources.now in
    let n0 = c.args.net.now in
    let n1 = c.settled.new.net in
    let wires = c.in_ok-wires.wires in
    let S = settled_slices p.module n0 n1 x.registers x.inputs x.unknown c.as_slice-registers.result.now c.as_slice-inputs.result.now c.as_slice.result.now wires c.as_slice-registers.ensures c.as_slice-inputs.ensures c.as_slice.ensures c.in_ok-wires.ensures in
    view_terms p n0 n1 x wires c.as_slice-2.result.now c.as_slice-registers.result.now c.as_slice-inputs.result.now c.as_slice-3.result.now c.as_slice-2.ensures c.as_slice-registers.ensures c.as_slice-inputs.ensures c.as_slice-3.ensures c.requires.sources S

pub returns : goal.returns
returns c =
    let p = c.args.pair.now in
    let x = c.args.sources.now in
    let n0 = c.args.net.now in
    let n1 = c.settled.new.net in
    let wires = c.in_ok-wires.wires in
    let S = settled_slices p.module n0 n1 x.registers x.inputs x.unknown c.as_slice-registers.result.now c.as_slice-inputs.result.now c.as_slice.result.now wires c.as_slice-registers.ensures c.as_slice-inputs.ensures c.as_slice.ensures c.in_ok-wires.ensures in
    let n2 = c.signal_rows.new.net in
    let n3 = c.mirror_rows.new.net in
    let rows = c.in_ok-rows.rows.items in
    let G = signals_slices n1 n2 p.module.signals c.as_slice-2.result.now x.registers x.inputs wires c.as_slice-registers.result.now c.as_slice-inputs.result.now c.as_slice-3.result.now rows
    c.as_slice-2.ensures c.as_slice-registers.ensures c.as_slice-inputs.ensures c.as_slice-3.ensures c.in_ok-rows.ensures in
    let M : HasMirror p n2 n3 rows c.in_ok-members.members.items = subst (λ l. HasMirror p n2 n3 l c.in_ok-members.members.items) c.as_slice-4.ensures.value c.in_ok-members.ensures in
    view_made p n0 n1 n2 n3 x wires rows c.in_ok-members.members S G M
