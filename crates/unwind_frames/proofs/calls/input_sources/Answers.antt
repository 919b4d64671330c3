use Rattle.std.proofs.Common.{List, refl, sym, ◌∙◌, subst}
use Rattle.word_eqs.specs.declared.term.TermId.{TermId}
use Rattle.joint_ir.specs.declared.module.Role.TheVariants.{Input}
use Rattle.joint_ir.specs.Views.{widths_of, site_widths, members_of}
use Rattle.joint_ir.specs.WellFormed.{AreTerms}
use Rattle.unwind_state.proofs.Gates.{adds_none, adds_then}
use Rattle.unwind_module.proofs.Terms.{grows_adds, terms_kept}
use Rattle.unwind_words.specs.Rows.{AreRows, member_widths}
use Rattle.unwind_frames.proofs.Slices.{alike_grown, chosen_slices, driven_slices}
use Rattle.unwind_frames.proofs.Refreshing.{state_rows}
use Rattle.unwind_frames.proofs.Moving.{input_sources}
use Rattle.unwind_frames.proofs.calls.input_sources.Goals as goal

pub driven-requires-clause-members : goal.driven-requires-clause-members
driven-requires-clause-members c =
    let p = c.args.pair.now in
    let g = c.args.net.now.terms in
    subst (λ (l : List (List TermId)). AreRows g l (member_widths (members_of p.program.mirror))) (sym c.as_slice.ensures.value) (state_rows p g c.args.state.now c.requires.objects c.requires.words)

pub driven-requires-clause-inputs : goal.driven-requires-clause-inputs
driven-requires-clause-inputs c = subst (λ l. AreTerms c.args.net.now.terms l (widths_of Input c.args.pair.now.module.signals)) (sym c.as_slice-2.ensures) c.requires.words.sources.inputs

pub choose_all-requires-clause-alike : goal.choose_all-requires-clause-alike
choose_all-requires-clause-alike c =
    let p = c.args.pair.now in
    let s = c.args.state.now in
    let g = c.args.guard in
    let n0 = c.args.net.now in
    let n1 = c.driven.new.net in
    let new = c.in_ok-new.new in
    let members = s.objects.members.items in
    let M = c.requires.words in
    let D = driven_slices p n0 n1 members c.as_slice.result.now s.inputs c.as_slice-2.result.now new c.as_slice.ensures.value c.as_slice-2.ensures c.in_ok-new.ensures in
    let ws = widths_of Input p.module.signals in
    alike_grown n1 n1 new s.inputs c.as_slice-3.result.now c.as_slice-4.result.now ws (adds_none n1 D.adds.proper) D.terms (terms_kept n0.terms n1.terms s.inputs ws (grows_adds n0 n1 D.adds) M.sources.inputs) c.as_slice-3.ensures c.as_slice-4.ensures

pub choose_all-requires-2-clause-alike : goal.choose_all-requires-2-clause-alike
choose_all-requires-2-clause-alike c =
    let p = c.args.pair.now in
    let s = c.args.state.now in
    let g = c.args.guard in
    let n0 = c.args.net.now in
    let n1 = c.driven.new.net in
    let new = c.in_ok-new.new in
    let members = s.objects.members.items in
    let M = c.requires.words in
    let D = driven_slices p n0 n1 members c.as_slice.result.now s.inputs c.as_slice-2.result.now new c.as_slice.ensures.value c.as_slice-2.ensures c.in_ok-new.ensures in
    let n2 = c.choose_all.new.net in
    let I = chosen_slices n1 n2 g new s.inputs c.as_slice-3.result.now c.as_slice-4.result.now c.in_ok-inputs.inputs c.as_slice-3.ensures c.as_slice-4.ensures c.in_ok-inputs.ensures in
    let drawn = c.args.drawn.now in
    alike_grown n0 n2 drawn s.unknown drawn c.as_slice-5.result.now (site_widths p.module.settle_sites) (adds_then n0 n1 n2 D.adds I.adds) c.requires.drawn M.sources.unknown refl c.as_slice-5.ensures

pub returns : goal.returns
returns c =
    let p = c.args.pair.now in
    let s = c.args.state.now in
    let g = c.args.guard in
    let n0 = c.args.net.now in
    let n1 = c.driven.new.net in
    let new = c.in_ok-new.new in
    let members = s.objects.members.items in
    let M = c.requires.words in
    let D = driven_slices p n0 n1 members c.as_slice.result.now s.inputs c.as_slice-2.result.now new c.as_slice.ensures.value c.as_slice-2.ensures c.in_ok-new.ensures in
    let n2 = c.choose_all.new.net in
    let I = chosen_slices n1 n2 g new s.inputs c.as_slice-3.result.now c.as_slice-4.result.now c.in_ok-inputs.inputs c.as_slice-3.ensures c.as_slice-4.ensures c.in_ok-inputs.ensures in
    let n3 = c.choose_all-2.new.net in
    let drawn = c.args.drawn.now in
    let U = chosen_slices n2 n3 g drawn s.unknown drawn c.as_slice-5.result.now c.in_ok-unknown.unknown refl c.as_slice-5.ensures c.in_ok-unknown.ensures in
    input_sources p n0 n1 n2 n3 s drawn new c.in_ok-registers.registers c.in_ok-inputs.inputs c.in_ok-unknown.unknown g (c.in_ok-registers.ensures ∙ c.as_slice-6.ensures) M c.requires.drawn D I U
