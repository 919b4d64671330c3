use Rattle.unwind_module.proofs.Terms.{grows_adds, grows_then}
use Rattle.unwind_frames.proofs.Moving.{objects_grow, module_grow, edge_words, edge_grows, edge_call}
use Rattle.unwind_frames.proofs.calls.clock_edge.Goals as goal

pub edge_sources-requires-clause-words : goal.edge_sources-requires-clause-words
edge_sources-requires-clause-words c =
    let p = c.args.pair.now in
    let s = c.args.state.now in
    let g = c.args.guard in
    let n0 = c.args.net.now in
    let n3 = c.draw_edge.new.net in
    let d = c.in_ok-drawn.drawn in
    let E = c.in_ok-drawn.ensures in
    edge_words p n0 n3 s d g E c.requires.words

pub refresh-requires-clause-objects : goal.refresh-requires-clause-objects
refresh-requires-clause-objects c =
    let p = c.args.pair.now in
    let s = c.args.state.now in
    let g = c.args.guard in
    let n0 = c.args.net.now in
    let n3 = c.draw_edge.new.net in
    let d = c.in_ok-drawn.drawn in
    let E = c.in_ok-drawn.ensures in
    let n4 = c.edge_sources.new.net in
    let S = c.in_ok-sources.ensures in
    let G = grows_then n0.terms n3.terms n4.terms (edge_grows p.module n0 n3 d g E) (grows_adds n3 n4 S.adds) in
    objects_grow p n0.terms n4.terms s G c.requires.objects

pub refresh-requires-clause-words : goal.refresh-requires-clause-words
refresh-requires-clause-words c =
    let p = c.args.pair.now in
    let s = c.args.state.now in
    let g = c.args.guard in
    let n0 = c.args.net.now in
    let n3 = c.draw_edge.new.net in
    let d = c.in_ok-drawn.drawn in
    let E = c.in_ok-drawn.ensures in
    let n4 = c.edge_sources.new.net in
    let S = c.in_ok-sources.ensures in
    let G = grows_then n0.terms n3.terms n4.terms (edge_grows p.module n0 n3 d g E) (grows_adds n3 n4 S.adds) in
    module_grow p n0.terms n4.terms s G c.requires.words

pub returns : goal.returns
returns c =
    let p = c.args.pair.now in
    let s = c.args.state.now in
    let g = c.args.guard in
    let n0 = c.args.net.now in
    let n3 = c.draw_edge.new.net in
    let d = c.in_ok-drawn.drawn in
    let E = c.in_ok-drawn.ensures in
    edge_call p n0 n3 c.edge_sources.new.net c.refresh.new.net s c.refresh.new.state g d c.in_ok-sources.sources E c.in_ok-sources.ensures c.in_ok-refresh.ensures
