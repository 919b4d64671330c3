use Rattle.std.proofs.Common.{◌≡◌, ◌∙◌, length, sym, arith}
use Rattle.unrolled.specs.Elements.{terms_of}
use Rattle.unwind_state.proofs.Gates.{guard_kept}
use Rattle.unwind_state.proofs.Places.{put_none, put_more, put_all}
use Rattle.unwind_stores.proofs.elements.put_at.Goals as goal

pub loop-place-init : goal.loop-place-init
loop-place-init c = put_none c.args.net.now c.args.objects.now c.args.slot c.args.index c.args.value c.args.guard c.len.ensures.proper

pub put_place-requires-clause-guard : goal.put_place-requires-clause-guard
put_place-requires-clause-guard c = guard_kept c.args.net.now c.loop-place.net c.args.guard c.loop-place.invariant.adds c.requires.guard

pub put_place-requires-clause-has : goal.put_place-requires-clause-has
put_place-requires-clause-has c = c.loop-place.invariant.adds.kept c.args.index c.requires.has

pub put_place-requires-clause-value : goal.put_place-requires-clause-value
put_place-requires-clause-value c = c.loop-place.invariant.adds.kept c.args.value c.requires.value

pub put_place-requires-clause-there : goal.put_place-requires-clause-there
put_place-requires-clause-there c =
    let M = c.requires.may in
    let H = c.loop-place.invariant.objects M.program M.width M.objects in
    let same : length (terms_of c.loop-place.objects c.args.slot) ≡ length (terms_of c.args.objects.now c.args.slot) = H.count c.args.slot M.there ∙ sym (M.objects.count c.args.slot M.there) in
    let n = c.requires.count in
    let e = c.reached-place-end.ensures in
    grind arith

pub put_place-requires-clause-may : goal.put_place-requires-clause-may
put_place-requires-clause-may c =
    let M = c.requires.may in
    record { program = M.program; stored = M.stored; there = M.there; width = M.width; objects = c.loop-place.invariant.objects M.program M.width M.objects }

pub loop-place-preserved : goal.loop-place-preserved
loop-place-preserved c =
    let M = c.requires.may in
    let H = c.loop-place.invariant.objects M.program M.width M.objects in
    let same : length (terms_of c.loop-place.objects c.args.slot) ≡ length (terms_of c.args.objects.now c.args.slot) = H.count c.args.slot M.there ∙ sym (M.objects.count c.args.slot M.there) in
    let n = c.requires.count in
    let e = c.reached-place-end.ensures in
    let P = c.in_ok-put_place.ensures in
    put_more c.args.net.now c.loop-place.net P.between c.put_place.new.net c.args.objects.now c.loop-place.objects c.put_place.new.objects c.args.slot c.loop-place.place c.args.index c.args.value c.args.guard P.under (grind arith) c.loop-place.invariant P.adds P.is P.put

pub returns : goal.returns
returns c =
    let n = c.requires.count in
    let e = c.reached-place-end.ensures in
    put_all c.args.net.now c.loop-place.net c.args.objects.now c.loop-place.objects c.args.slot c.loop-place.place c.args.index c.args.value c.args.guard c.requires.has c.requires.guard c.len.ensures.proper (grind arith) c.loop-place.invariant
