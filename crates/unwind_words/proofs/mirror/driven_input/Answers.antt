use Rattle.std.proofs.Common.{◌≡◌, ℕ, ◌<◌, List, [], Some, length, get_or, refl, sym, ap, ◌∙◌, subst, arith}
use Rattle.std.specs.Prelude.{slice_get}
use Rattle.std.proofs.lemmas.List.{length-map, get_or_default}
use Rattle.std.proofs.lemmas.Option.{same_Some, get_or_from_slice_get}
use Rattle.bits_core.specs.Word.{resized}
use Rattle.word_eqs.specs.declared.term.TermId.{TermId}
use Rattle.joint_ir.specs.declared.ctype.IntType.{IntType}
use Rattle.joint_ir.specs.declared.pair.Pair.{Pair}
use Rattle.joint_ir.specs.declared.program.Member.{Member as AMember}
use Rattle.joint_ir.specs.States.{copies}
use Rattle.joint_ir.specs.Steps.{type_or_int}
use Rattle.joint_ir.specs.Views.{mirroring_member, members_of}
use Rattle.joint_ir.specs.WellFormed.{FitsSignal}
use Rattle.sized_terms.specs.Sized.{Has, IsMade}
use Rattle.unrolled.specs.declared.Unrolled.{Unrolled}
use Rattle.unwind_state.specs.Writing.{sized}
use Rattle.unwind_module.specs.Words.{member_elements}
use Rattle.unwind_words.specs.Rows.{AreRows, member_widths}
use Rattle.unwind_words.proofs.Rows.{rows_length}
use Rattle.unwind_words.proofs.Links.{mirroring, there_below}
use Rattle.unwind_words.proofs.Showing.{member_some, member_first, member_typed, driven_some}
use Rattle.unwind_words.proofs.mirror.driven_input.Goals as goal

below : (p : Pair) (n : Unrolled) (rows : List (List TermId)) → AreRows n.terms rows (member_widths (members_of p.program.mirror)) → (i : ℕ) (m : AMember) → slice_get (members_of p.program.mirror) i ≡ Some m → i < length rows
below p n rows h i m at =
    let e = rows_length n.terms rows (member_widths (members_of p.program.mirror)) h in
    let d = length-map (members_of p.program.mirror) (λ (m : AMember). copies (member_elements m) (type_or_int m.ty).bits) in
    let lt = there_below (members_of p.program.mirror) i m at in
    omega arith

pub bounds-members-m : goal.bounds-members-m
bounds-members-m c =
    let p = c.args.pair.now in
    let well = c.requires.well in
    let g = c.args.place in
    let i = c.in-Some.m in
    let mirrors : mirroring_member p.binding.links g ≡ Some i = sym (c.mirroring_member.ensures ∙ ap (λ l. mirroring_member l g) c.as_slice.ensures) ∙ c.in-Some.is in
    let L = mirroring p well i g mirrors in
    below p c.args.net.now c.args.members.now c.requires.members i L.member L.at_member

pub first_term-requires : goal.first_term-requires
first_term-requires c =
    let p = c.args.pair.now in
    let well = c.requires.well in
    let g = c.args.place in
    let i = c.in-Some.m in
    let mirrors : mirroring_member p.binding.links g ≡ Some i = sym (c.mirroring_member.ensures ∙ ap (λ l. mirroring_member l g) c.as_slice.ensures) ∙ c.in-Some.is in
    let L = mirroring p well i g mirrors in
    let s : L.signal ≡ c.args.signal.now = same_Some L.signal c.args.signal.now (sym L.at_signal ∙ c.requires.there) in
    let rows = c.args.members.now in
    let n = c.args.net.now in
    let lt = below p n rows c.requires.members i L.member L.at_member in
    let row : c.as_slice-in-Some.result.now ≡ get_or rows i [] = c.as_slice-in-Some.ensures ∙ c.index-members-m.is ∙ get_or_default rows i c.index-members-m.result [] lt in
    subst (λ (l : List TermId). 0 < length l) (sym row) (member_some p n rows c.requires.members i g L)

pub resize-requires-clause-has : goal.resize-requires-clause-has
resize-requires-clause-has c =
    let p = c.args.pair.now in
    let well = c.requires.well in
    let g = c.args.place in
    let i = c.in-Some.m in
    let mirrors : mirroring_member p.binding.links g ≡ Some i = sym (c.mirroring_member.ensures ∙ ap (λ l. mirroring_member l g) c.as_slice.ensures) ∙ c.in-Some.is in
    let L = mirroring p well i g mirrors in
    let s : L.signal ≡ c.args.signal.now = same_Some L.signal c.args.signal.now (sym L.at_signal ∙ c.requires.there) in
    let rows = c.args.members.now in
    let n = c.args.net.now in
    let lt = below p n rows c.requires.members i L.member L.at_member in
    let row : c.as_slice-in-Some.result.now ≡ get_or rows i [] = c.as_slice-in-Some.ensures ∙ c.index-members-m.is ∙ get_or_default rows i c.index-members-m.result [] lt in
    let t : c.slot_type-ty.result ≡ L.ty = c.slot_type-ty.ensures ∙ member_typed p n rows c.requires.members i g L in
    let first : c.first_term.result ≡ get_or (get_or rows i []) 0 c.first_term.result = subst (λ l. c.first_term.result ≡ get_or l 0 c.first_term.result) row (sym (get_or_from_slice_get c.as_slice-in-Some.result.now 0 c.first_term.result c.first_term.result c.first_term.ensures)) in
    subst (λ (x : IntType). Has n.terms (sized c.first_term.result x.bits)) (sym t) (member_first p n rows c.requires.members i g L c.first_term.result first)

pub resize-requires-clause-some : goal.resize-requires-clause-some
resize-requires-clause-some c =
    let p = c.args.pair.now in
    let well = c.requires.well in
    let g = c.args.place in
    let i = c.in-Some.m in
    let mirrors : mirroring_member p.binding.links g ≡ Some i = sym (c.mirroring_member.ensures ∙ ap (λ l. mirroring_member l g) c.as_slice.ensures) ∙ c.in-Some.is in
    let L = mirroring p well i g mirrors in
    let s : L.signal ≡ c.args.signal.now = same_Some L.signal c.args.signal.now (sym L.at_signal ∙ c.requires.there) in
    (subst FitsSignal s L.fits).some

pub resize-requires-clause-within : goal.resize-requires-clause-within
resize-requires-clause-within c =
    let p = c.args.pair.now in
    let well = c.requires.well in
    let g = c.args.place in
    let i = c.in-Some.m in
    let mirrors : mirroring_member p.binding.links g ≡ Some i = sym (c.mirroring_member.ensures ∙ ap (λ l. mirroring_member l g) c.as_slice.ensures) ∙ c.in-Some.is in
    let L = mirroring p well i g mirrors in
    let s : L.signal ≡ c.args.signal.now = same_Some L.signal c.args.signal.now (sym L.at_signal ∙ c.requires.there) in
    omega (arith, (subst FitsSignal s L.fits).few)

pub returns-in_ok-t-in-Some : goal.returns-in_ok-t-in-Some
returns-in_ok-t-in-Some c =
    let p = c.args.pair.now in
    let well = c.requires.well in
    let g = c.args.place in
    let i = c.in-Some.m in
    let mirrors : mirroring_member p.binding.links g ≡ Some i = sym (c.mirroring_member.ensures ∙ ap (λ l. mirroring_member l g) c.as_slice.ensures) ∙ c.in-Some.is in
    let L = mirroring p well i g mirrors in
    let s : L.signal ≡ c.args.signal.now = same_Some L.signal c.args.signal.now (sym L.at_signal ∙ c.requires.there) in
    let rows = c.args.members.now in
    let n = c.args.net.now in
    let lt = below p n rows c.requires.members i L.member L.at_member in
    let row : c.as_slice-in-Some.result.now ≡ get_or rows i [] = c.as_slice-in-Some.ensures ∙ c.index-members-m.is ∙ get_or_default rows i c.index-members-m.result [] lt in
    let t : c.slot_type-ty.result ≡ L.ty = c.slot_type-ty.ensures ∙ member_typed p n rows c.requires.members i g L in
    let x = c.first_term.result in
    let first : x ≡ get_or (get_or rows i []) 0 x = subst (λ l. x ≡ get_or l 0 x) row (sym (get_or_from_slice_get c.as_slice-in-Some.result.now 0 x x c.first_term.ensures)) in
    let net : Unrolled = record { terms = c.resize.new.terms; list = n.list } in
    let w = c.args.signal.now.bits in
    let made : IsMade n.terms net.terms w 0 1 c.in_ok-t-in-Some.t (λ v. resized w L.ty.signed L.ty.bits (v.term x.0).value) =
    subst (λ (y : IntType). IsMade n.terms net.terms w 0 1 c.in_ok-t-in-Some.t (λ v. resized w y.signed y.bits (v.term x.0).value)) t c.in_ok-t-in-Some.ensures in
    driven_some p n rows c.requires.members i g L net c.args.signal.now c.args.old x c.in_ok-t-in-Some.t c.requires.there mirrors first made refl
