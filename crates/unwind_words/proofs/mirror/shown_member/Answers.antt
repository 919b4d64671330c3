use Rattle.std.proofs.Common.{◌≡◌, ℕ, ◌<◌, ◌≤◌, List, [], Some, length, get_or, sym, ap, ◌∙◌, subst, arith}
use Rattle.std.specs.Prelude.{slice_get}
use Rattle.std.proofs.lemmas.List.{length-map, get_or_default}
use Rattle.word_eqs.specs.declared.term.TermId.{TermId}
use Rattle.joint_ir.specs.declared.ctype.IntType.{IntType}
use Rattle.joint_ir.specs.declared.module.Signal.{Signal}
use Rattle.joint_ir.specs.declared.pair.Pair.{Pair}
use Rattle.joint_ir.specs.States.{copies, element_count}
use Rattle.joint_ir.specs.Types.{IsType}
use Rattle.joint_ir.specs.Views.{mirrored_signal}
use Rattle.joint_ir.specs.WellFormed.{AreTerms, FitsSignal}
use Rattle.unrolled.specs.declared.Unrolled.{Unrolled}
use Rattle.unwind_words.specs.Rows.{AreRows, IsShown, signal_widths}
use Rattle.unwind_words.proofs.Rows.{rows_length}
use Rattle.unwind_words.proofs.Links.{mirrored, has_signal, linked_type, same_there, there_below}
use Rattle.unwind_words.proofs.Showing.{signal_row_own, signal_member}
use Rattle.unwind_words.proofs.mirror.shown_member.Goals as goal

below : (p : Pair) (n : Unrolled) (rows : List (List TermId)) → AreRows n.terms rows (signal_widths p.module.signals) → (g : ℕ) (s : Signal) → slice_get p.module.signals g ≡ Some s → g < length rows
below p n rows h g s at =
    let e = rows_length n.terms rows (signal_widths p.module.signals) h in
    let d = length-map p.module.signals (λ (s : Signal). copies (element_count s.words) s.bits) in
    let lt = there_below p.module.signals g s at in
    omega arith

pub bounds-as_slice-g : goal.bounds-as_slice-g
bounds-as_slice-g c =
    let p = c.args.pair.now in
    let well = c.requires.well in
    let i = c.args.place in
    let g = c.in-Some-signal.g in
    let m = c.args.member.now in
    let mirrors : mirrored_signal p.binding.links i ≡ Some g = sym (c.mirrored_signal-signal.ensures ∙ ap (λ l. mirrored_signal l i) c.as_slice.ensures) ∙ c.in-Some-signal.is in
    let L = mirrored p well i g mirrors in
    subst (λ l. g < length l) (sym c.as_slice-in-Some-signal.ensures) (there_below p.module.signals g L.signal L.at_signal)

pub bounds-rows-g : goal.bounds-rows-g
bounds-rows-g c =
    let p = c.args.pair.now in
    let well = c.requires.well in
    let i = c.args.place in
    let g = c.in-Some-signal.g in
    let m = c.args.member.now in
    let mirrors : mirrored_signal p.binding.links i ≡ Some g = sym (c.mirrored_signal-signal.ensures ∙ ap (λ l. mirrored_signal l i) c.as_slice.ensures) ∙ c.in-Some-signal.is in
    let L = mirrored p well i g mirrors in
    below p c.args.net.now c.args.rows.now c.requires.rows g L.signal L.at_signal

pub shown_row-requires-clause-ty : goal.shown_row-requires-clause-ty
shown_row-requires-clause-ty c =
    let p = c.args.pair.now in
    let well = c.requires.well in
    let i = c.args.place in
    let g = c.in-Some-signal.g in
    let m = c.args.member.now in
    let mirrors : mirrored_signal p.binding.links i ≡ Some g = sym (c.mirrored_signal-signal.ensures ∙ ap (λ l. mirrored_signal l i) c.as_slice.ensures) ∙ c.in-Some-signal.is in
    let L = mirrored p well i g mirrors in
    let s : c.index-as_slice-g.result ≡ L.signal = same_there p.module.signals g c.index-as_slice-g.result L.signal L.at_signal (subst (λ l. c.index-as_slice-g.result ≡ get_or l g c.index-as_slice-g.result) c.as_slice-in-Some-signal.ensures c.index-as_slice-g.is) in
    let t : L.ty ≡ c.in-Some.ty = linked_type p i g L m c.in-Some.ty c.requires.there c.in-Some.is in
    subst IsType t L.type_

pub shown_row-requires-clause-signal : goal.shown_row-requires-clause-signal
shown_row-requires-clause-signal c =
    let p = c.args.pair.now in
    let well = c.requires.well in
    let i = c.args.place in
    let g = c.in-Some-signal.g in
    let m = c.args.member.now in
    let mirrors : mirrored_signal p.binding.links i ≡ Some g = sym (c.mirrored_signal-signal.ensures ∙ ap (λ l. mirrored_signal l i) c.as_slice.ensures) ∙ c.in-Some-signal.is in
    let L = mirrored p well i g mirrors in
    let s : c.index-as_slice-g.result ≡ L.signal = same_there p.module.signals g c.index-as_slice-g.result L.signal L.at_signal (subst (λ l. c.index-as_slice-g.result ≡ get_or l g c.index-as_slice-g.result) c.as_slice-in-Some-signal.ensures c.index-as_slice-g.is) in
    let t : L.ty ≡ c.in-Some.ty = linked_type p i g L m c.in-Some.ty c.requires.there c.in-Some.is in
    subst FitsSignal (sym s) L.fits

pub shown_row-requires-clause-wide : goal.shown_row-requires-clause-wide
shown_row-requires-clause-wide c =
    let p = c.args.pair.now in
    let well = c.requires.well in
    let i = c.args.place in
    let g = c.in-Some-signal.g in
    let m = c.args.member.now in
    let mirrors : mirrored_signal p.binding.links i ≡ Some g = sym (c.mirrored_signal-signal.ensures ∙ ap (λ l. mirrored_signal l i) c.as_slice.ensures) ∙ c.in-Some-signal.is in
    let L = mirrored p well i g mirrors in
    let s : c.index-as_slice-g.result ≡ L.signal = same_there p.module.signals g c.index-as_slice-g.result L.signal L.at_signal (subst (λ l. c.index-as_slice-g.result ≡ get_or l g c.index-as_slice-g.result) c.as_slice-in-Some-signal.ensures c.index-as_slice-g.is) in
    let t : L.ty ≡ c.in-Some.ty = linked_type p i g L m c.in-Some.ty c.requires.there c.in-Some.is in
    subst (λ (x : Signal). x.bits ≤ c.in-Some.ty.bits) (sym s) (subst (λ (x : IntType). L.signal.bits ≤ x.bits) t L.wide)

pub shown_row-requires-clause-words : goal.shown_row-requires-clause-words
shown_row-requires-clause-words c =
    let p = c.args.pair.now in
    let well = c.requires.well in
    let i = c.args.place in
    let g = c.in-Some-signal.g in
    let m = c.args.member.now in
    let mirrors : mirrored_signal p.binding.links i ≡ Some g = sym (c.mirrored_signal-signal.ensures ∙ ap (λ l. mirrored_signal l i) c.as_slice.ensures) ∙ c.in-Some-signal.is in
    let L = mirrored p well i g mirrors in
    let s : c.index-as_slice-g.result ≡ L.signal = same_there p.module.signals g c.index-as_slice-g.result L.signal L.at_signal (subst (λ l. c.index-as_slice-g.result ≡ get_or l g c.index-as_slice-g.result) c.as_slice-in-Some-signal.ensures c.index-as_slice-g.is) in
    let t : L.ty ≡ c.in-Some.ty = linked_type p i g L m c.in-Some.ty c.requires.there c.in-Some.is in
    let rows = c.args.rows.now in
    let lt = below p c.args.net.now rows c.requires.rows g L.signal L.at_signal in
    let row : c.as_slice-in-Some-signal-2.result.now ≡ get_or rows g [] = c.as_slice-in-Some-signal-2.ensures ∙ c.index-rows-g.is ∙ get_or_default rows g c.index-rows-g.result [] lt in
    subst (λ (x : Signal). AreTerms c.args.net.now.terms c.as_slice-in-Some-signal-2.result.now (copies (length c.as_slice-in-Some-signal-2.result.now) x.bits)) (sym s)
    (subst (λ l. AreTerms c.args.net.now.terms l (copies (length l) L.signal.bits)) (sym row) (signal_row_own p well c.args.net.now rows c.requires.rows i g L))

pub returns-in-None-signal : goal.returns-in-None-signal
returns-in-None-signal c =
    let p = c.args.pair.now in
    absurd (has_signal p c.requires.well c.args.place c.args.member.now c.in-Some.ty c.requires.there c.in-Some.is (sym (c.mirrored_signal-signal.ensures ∙ ap (λ l. mirrored_signal l c.args.place) c.as_slice.ensures) ∙ c.in-None-signal.is))

pub returns-in_ok-ids-in-Some-signal : goal.returns-in_ok-ids-in-Some-signal
returns-in_ok-ids-in-Some-signal c =
    let p = c.args.pair.now in
    let well = c.requires.well in
    let i = c.args.place in
    let g = c.in-Some-signal.g in
    let m = c.args.member.now in
    let mirrors : mirrored_signal p.binding.links i ≡ Some g = sym (c.mirrored_signal-signal.ensures ∙ ap (λ l. mirrored_signal l i) c.as_slice.ensures) ∙ c.in-Some-signal.is in
    let L = mirrored p well i g mirrors in
    let s : c.index-as_slice-g.result ≡ L.signal = same_there p.module.signals g c.index-as_slice-g.result L.signal L.at_signal (subst (λ l. c.index-as_slice-g.result ≡ get_or l g c.index-as_slice-g.result) c.as_slice-in-Some-signal.ensures c.index-as_slice-g.is) in
    let t : L.ty ≡ c.in-Some.ty = linked_type p i g L m c.in-Some.ty c.requires.there c.in-Some.is in
    let rows = c.args.rows.now in
    let lt = below p c.args.net.now rows c.requires.rows g L.signal L.at_signal in
    let row : c.as_slice-in-Some-signal-2.result.now ≡ get_or rows g [] = c.as_slice-in-Some-signal-2.ensures ∙ c.index-rows-g.is ∙ get_or_default rows g c.index-rows-g.result [] lt in
    let n = c.args.net.now in
    let n1 = c.shown_row.new.net in
    let ids = c.in_ok-ids-in-Some-signal.ids in
    let ty = c.in-Some.ty in
    let S : IsShown n n1 ty L.signal (get_or rows g []) ids =
    subst (λ (x : Signal). IsShown n n1 ty x (get_or rows g []) ids) s (subst (λ l. IsShown n n1 ty c.index-as_slice-g.result l ids) row c.in_ok-ids-in-Some-signal.ensures) in
    signal_member p well n rows c.requires.rows n1 i g m ty ids c.requires.there c.in-Some.is mirrors L S
