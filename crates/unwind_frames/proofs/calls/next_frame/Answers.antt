use Rattle.unwind_frames.proofs.Moving.{objects_grow, module_grow, bounded_grows, frame_call}
use Rattle.unwind_frames.proofs.calls.next_frame.Goals as goal

pub clock_edge-requires-clause-objects : goal.clock_edge-requires-clause-objects
clock_edge-requires-clause-objects c =
    let p = c.args.pair.now in
    let b = c.args.bounds.now in
    let s = c.args.state.now in
    let g = c.args.guard in
    let n0 = c.args.net.now in
    let n2 = c.bounded.new.net in
    let B = c.in_ok-bounded.ensures in
    objects_grow p n0.terms n2.terms s (bounded_grows n0 n2 b c.args.broken s.edges g B) c.requires.objects

pub clock_edge-requires-clause-words : goal.clock_edge-requires-clause-words
clock_edge-requires-clause-words c =
    let p = c.args.pair.now in
    let b = c.args.bounds.now in
    let s = c.args.state.now in
    let g = c.args.guard in
    let n0 = c.args.net.now in
    let n2 = c.bounded.new.net in
    let B = c.in_ok-bounded.ensures in
    module_grow p n0.terms n2.terms s (bounded_grows n0 n2 b c.args.broken s.edges g B) c.requires.words

pub returns : goal.returns
returns c =
    let p = c.args.pair.now in
    let b = c.args.bounds.now in
    let s = c.args.state.now in
    let g = c.args.guard in
    let n0 = c.args.net.now in
    let n2 = c.bounded.new.net in
    let B = c.in_ok-bounded.ensures in
    frame_call p n0 n2 c.clock_edge.new.net s c.clock_edge.new.state g b c.args.broken B c.in_ok-clock_edge.ensures
