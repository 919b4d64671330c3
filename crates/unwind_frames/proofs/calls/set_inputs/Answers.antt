use Rattle.std.proofs.Common.{List, subst, sym}
use Rattle.word_eqs.specs.declared.term.TermId.{TermId}
use Rattle.joint_ir.specs.declared.module.Site.{Site}
use Rattle.joint_ir.specs.Effects.{draw_all}
use Rattle.joint_ir.specs.Views.{site_widths}
use Rattle.joint_ir.specs.WellFormed.{AreTerms}
use Rattle.unwind_module.specs.Drawing.{AreDrawn}
use Rattle.unwind_module.proofs.Terms.{grows_adds, grows_then}
use Rattle.unwind_frames.specs.Moves.{AreInputSources}
use Rattle.unwind_frames.proofs.Moving.{objects_grow, module_grow, inputs_call}
use Rattle.unwind_frames.proofs.calls.set_inputs.Goals as goal

pub input_sources-requires-clause-objects : goal.input_sources-requires-clause-objects
input_sources-requires-clause-objects c =
    let p = c.args.pair.now in
    let s = c.args.state.now in
    let g = c.args.guard in
    let n0 = c.args.net.now in
    let n1 = c.draw_sites.new.net in
    let drawn = c.in_ok-drawn.drawn in
    let D : AreDrawn n0 n1 g (draw_all (site_widths p.module.settle_sites)) (site_widths p.module.settle_sites) drawn =
    subst (λ (l : List Site). AreDrawn n0 n1 g (draw_all (site_widths l)) (site_widths l) drawn) c.as_slice.ensures c.in_ok-drawn.ensures in
    objects_grow p n0.terms n1.terms s D.grows c.requires.objects

pub input_sources-requires-clause-words : goal.input_sources-requires-clause-words
input_sources-requires-clause-words c =
    let p = c.args.pair.now in
    let s = c.args.state.now in
    let g = c.args.guard in
    let n0 = c.args.net.now in
    let n1 = c.draw_sites.new.net in
    let drawn = c.in_ok-drawn.drawn in
    let D : AreDrawn n0 n1 g (draw_all (site_widths p.module.settle_sites)) (site_widths p.module.settle_sites) drawn =
    subst (λ (l : List Site). AreDrawn n0 n1 g (draw_all (site_widths l)) (site_widths l) drawn) c.as_slice.ensures c.in_ok-drawn.ensures in
    module_grow p n0.terms n1.terms s D.grows c.requires.words

pub input_sources-requires-clause-drawn : goal.input_sources-requires-clause-drawn
input_sources-requires-clause-drawn c =
    let p = c.args.pair.now in
    let s = c.args.state.now in
    let g = c.args.guard in
    let n0 = c.args.net.now in
    let n1 = c.draw_sites.new.net in
    let drawn = c.in_ok-drawn.drawn in
    let D : AreDrawn n0 n1 g (draw_all (site_widths p.module.settle_sites)) (site_widths p.module.settle_sites) drawn =
    subst (λ (l : List Site). AreDrawn n0 n1 g (draw_all (site_widths l)) (site_widths l) drawn) c.as_slice.ensures c.in_ok-drawn.ensures in
    subst (λ (l : List TermId). AreTerms n1.terms l (site_widths p.module.settle_sites)) (sym c.as_slice-2.ensures) D.terms

pub refresh-requires-clause-objects : goal.refresh-requires-clause-objects
refresh-requires-clause-objects c =
    let p = c.args.pair.now in
    let s = c.args.state.now in
    let g = c.args.guard in
    let n0 = c.args.net.now in
    let n1 = c.draw_sites.new.net in
    let drawn = c.in_ok-drawn.drawn in
    let D : AreDrawn n0 n1 g (draw_all (site_widths p.module.settle_sites)) (site_widths p.module.settle_sites) drawn =
    subst (λ (l : List Site). AreDrawn n0 n1 g (draw_all (site_widths l)) (site_widths l) drawn) c.as_slice.ensures c.in_ok-drawn.ensures in
    let n2 = c.input_sources.new.net in
    let x = c.in_ok-sources.sources in
    let S : AreInputSources p n1 n2 s drawn g x = subst (λ (l : List TermId). AreInputSources p n1 n2 s l g x) c.as_slice-2.ensures c.in_ok-sources.ensures in
    let G = grows_then n0.terms n1.terms n2.terms D.grows (grows_adds n1 n2 S.adds) in
    objects_grow p n0.terms n2.terms s G c.requires.objects

pub refresh-requires-clause-words : goal.refresh-requires-clause-words
refresh-requires-clause-words c =
    let p = c.args.pair.now in
    let s = c.args.state.now in
    let g = c.args.guard in
    let n0 = c.args.net.now in
    let n1 = c.draw_sites.new.net in
    let drawn = c.in_ok-drawn.drawn in
    let D : AreDrawn n0 n1 g (draw_all (site_widths p.module.settle_sites)) (site_widths p.module.settle_sites) drawn =
    subst (λ (l : List Site). AreDrawn n0 n1 g (draw_all (site_widths l)) (site_widths l) drawn) c.as_slice.ensures c.in_ok-drawn.ensures in
    let n2 = c.input_sources.new.net in
    let x = c.in_ok-sources.sources in
    let S : AreInputSources p n1 n2 s drawn g x = subst (λ (l : List TermId). AreInputSources p n1 n2 s l g x) c.as_slice-2.ensures c.in_ok-sources.ensures in
    let G = grows_then n0.terms n1.terms n2.terms D.grows (grows_adds n1 n2 S.adds) in
    module_grow p n0.terms n2.terms s G c.requires.words

pub returns : goal.returns
returns c =
    let p = c.args.pair.now in
    let s = c.args.state.now in
    let g = c.args.guard in
    let n0 = c.args.net.now in
    let n1 = c.draw_sites.new.net in
    let drawn = c.in_ok-drawn.drawn in
    let D : AreDrawn n0 n1 g (draw_all (site_widths p.module.settle_sites)) (site_widths p.module.settle_sites) drawn =
    subst (λ (l : List Site). AreDrawn n0 n1 g (draw_all (site_widths l)) (site_widths l) drawn) c.as_slice.ensures c.in_ok-drawn.ensures in
    let n2 = c.input_sources.new.net in
    let x = c.in_ok-sources.sources in
    let S : AreInputSources p n1 n2 s drawn g x = subst (λ (l : List TermId). AreInputSources p n1 n2 s l g x) c.as_slice-2.ensures c.in_ok-sources.ensures in
    inputs_call p n0 n1 n2 c.refresh.new.net s c.refresh.new.state g drawn x D S c.in_ok-refresh.ensures
