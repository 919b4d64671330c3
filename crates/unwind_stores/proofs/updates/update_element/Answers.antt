use Rattle.std.proofs.Common.{◌<◌, List, length, sym, ap, ◌∙◌, subst}
use Rattle.word_eqs.specs.declared.term.TermId.{TermId}
use Rattle.joint_ir.specs.declared.ctype.IntType.{IntType}
use Rattle.joint_ir.specs.Types.{IsType}
use Rattle.element_terms.specs.Elements.{AreElements}
use Rattle.unrolled.specs.Elements.{terms_of}
use Rattle.unwind_simple.proofs.Statements.{grown_guard, grown_objects, grown_result, there_in}
use Rattle.unwind_simple.proofs.Types.{has_types}
use Rattle.unwind_stores.specs.Elements.{IsReadAt}
use Rattle.unwind_stores.proofs.Answered.{grows_then, grows_adds}
use Rattle.unwind_stores.proofs.Bounds.{index_fits}
use Rattle.unwind_stores.proofs.ElementUpdates.{done_update_element}
use Rattle.unwind_stores.proofs.Rows.{old_has, some_terms}
use Rattle.unwind_stores.proofs.Storing.{bounded_grows, array_terms}
use Rattle.unwind_stores.proofs.updates.update_element.Goals as goal

pub value-requires : goal.value-requires
value-requires c =
    let M = c.requires.may in
    record { scope = M.scope; program = M.program; fits = (index_fits M.scope c.args.target.now c.args.index.now c.requires.index M.fits.target_fits).0; objects = M.objects; guard = M.guard }

pub bounded-requires-clause-guard : goal.bounded-requires-clause-guard
bounded-requires-clause-guard c = grown_guard c.args.at.now c.args.net.now c.value.new.net c.args.guard c.in_ok-i.ensures.grows c.requires.may.guard

pub bounded-requires-clause-has : goal.bounded-requires-clause-has
bounded-requires-clause-has c = c.in_ok-i.ensures.has

pub elements-requires-clause-stored : goal.elements-requires-clause-stored
elements-requires-clause-stored c = c.requires.may.fits.target_fits.stored

pub elements-requires-clause-some : goal.elements-requires-clause-some
elements-requires-clause-some c =
    let M = c.requires.may in
    let slot = c.args.target.now.slot in
    some_terms c.args.at.now.pair.now.program c.args.net.now.terms c.args.state.now.objects slot M.objects (there_in c.args.at.now M.scope slot M.program M.fits.target_fits.object.visible M.fits.target_fits.stored)

pub read_at-requires-clause-has : goal.read_at-requires-clause-has
read_at-requires-clause-has c =
    (bounded_grows c.value.new.net c.bounded.new.net c.args.target.now.bounds c.in_ok-i.i c.args.index.now.ty c.slot_length-count.result c.args.guard c.in_ok-bounded.ensures).kept c.in_ok-i.i c.in_ok-i.ensures.has

pub read_at-requires-clause-some : goal.read_at-requires-clause-some
read_at-requires-clause-some c =
    let M = c.requires.may in
    let slot = c.args.target.now.slot in
    subst (λ (l : List TermId). 0 < length l) (sym c.elements.ensures)
    (some_terms c.args.at.now.pair.now.program c.args.net.now.terms c.args.state.now.objects slot M.objects (there_in c.args.at.now M.scope slot M.program M.fits.target_fits.object.visible M.fits.target_fits.stored))

pub read_at-requires-clause-elements : goal.read_at-requires-clause-elements
read_at-requires-clause-elements c =
    let M = c.requires.may in
    let slot = c.args.target.now.slot in
    let G = bounded_grows c.value.new.net c.bounded.new.net c.args.target.now.bounds c.in_ok-i.i c.args.index.now.ty c.slot_length-count.result c.args.guard c.in_ok-bounded.ensures in
    let two = grows_then c.args.net.now.terms c.value.new.net.terms c.bounded.new.net.terms c.in_ok-i.ensures.grows G in
    subst (λ (l : List TermId). AreElements c.bounded.new.net.terms l c.slot_type-ty.result.bits) (sym c.elements.ensures)
    (λ k t at. old_has c.args.at.now.pair.now.program c.args.net.now.terms c.bounded.new.net.terms c.args.state.now.objects slot k c.slot_type-ty.result.bits
    (there_in c.args.at.now M.scope slot M.program M.fits.target_fits.object.visible M.fits.target_fits.stored) (ap (λ (u : IntType). u.bits) c.slot_type-ty.ensures) two.kept M.objects t at)

pub right-requires : goal.right-requires
right-requires c =
    let M = c.requires.may in
    let G = bounded_grows c.value.new.net c.bounded.new.net c.args.target.now.bounds c.in_ok-i.i c.args.index.now.ty c.slot_length-count.result c.args.guard c.in_ok-bounded.ensures in
    let two = grows_then c.args.net.now.terms c.value.new.net.terms c.bounded.new.net.terms c.in_ok-i.ensures.grows G in
    let three = grows_then c.args.net.now.terms c.bounded.new.net.terms c.read_at.new.net.terms two (grows_adds c.bounded.new.net c.read_at.new.net c.in_ok-old.ensures.adds) in
    record {
      well = M.well;
      scope = M.scope;
      program = M.program;
      fits = M.fits.update_fits;
      objects = grown_objects c.args.at.now c.args.net.now c.read_at.new.net c.args.state.now.objects three M.objects;
      result = grown_result c.args.at.now c.args.net.now.terms c.read_at.new.net.terms c.args.state.now.result three M.result;
      guard = grown_guard c.args.at.now c.args.net.now c.read_at.new.net c.args.guard three M.guard;
    }

pub operated-requires-clause-guard : goal.operated-requires-clause-guard
operated-requires-clause-guard c =
    let G = bounded_grows c.value.new.net c.bounded.new.net c.args.target.now.bounds c.in_ok-i.i c.args.index.now.ty c.slot_length-count.result c.args.guard c.in_ok-bounded.ensures in
    let two = grows_then c.args.net.now.terms c.value.new.net.terms c.bounded.new.net.terms c.in_ok-i.ensures.grows G in
    let three = grows_then c.args.net.now.terms c.bounded.new.net.terms c.read_at.new.net.terms two (grows_adds c.bounded.new.net c.read_at.new.net c.in_ok-old.ensures.adds) in
    grown_guard c.args.at.now c.args.net.now c.right.new.net c.args.guard (grows_then c.args.net.now.terms c.read_at.new.net.terms c.right.new.net.terms three c.in_ok-y.ensures.grows) c.requires.may.guard

pub operated-requires-clause-first : goal.operated-requires-clause-first
operated-requires-clause-first c = c.in_ok-y.ensures.grows.kept c.in_ok-old.old c.in_ok-old.ensures.has

pub operated-requires-clause-ty : goal.operated-requires-clause-ty
operated-requires-clause-ty c =
    let M = c.requires.may in
    let slot = c.args.target.now.slot in
    subst IsType (sym c.slot_type-ty.ensures) (has_types c.args.at.now.pair.now M.well slot (there_in c.args.at.now M.scope slot M.program M.fits.target_fits.object.visible M.fits.target_fits.stored))

pub put_at-requires-clause-guard : goal.put_at-requires-clause-guard
put_at-requires-clause-guard c =
    let G = bounded_grows c.value.new.net c.bounded.new.net c.args.target.now.bounds c.in_ok-i.i c.args.index.now.ty c.slot_length-count.result c.args.guard c.in_ok-bounded.ensures in
    let two = grows_then c.args.net.now.terms c.value.new.net.terms c.bounded.new.net.terms c.in_ok-i.ensures.grows G in
    let three = grows_then c.args.net.now.terms c.bounded.new.net.terms c.read_at.new.net.terms two (grows_adds c.bounded.new.net c.read_at.new.net c.in_ok-old.ensures.adds) in
    let four = grows_then c.args.net.now.terms c.read_at.new.net.terms c.right.new.net.terms three c.in_ok-y.ensures.grows in
    grown_guard c.args.at.now c.args.net.now c.operated.new.net c.args.guard (grows_then c.args.net.now.terms c.right.new.net.terms c.operated.new.net.terms four c.in_ok-new.ensures.grows) c.requires.may.guard

pub put_at-requires-clause-has : goal.put_at-requires-clause-has
put_at-requires-clause-has c =
    let G = bounded_grows c.value.new.net c.bounded.new.net c.args.target.now.bounds c.in_ok-i.i c.args.index.now.ty c.slot_length-count.result c.args.guard c.in_ok-bounded.ensures in
    c.in_ok-new.ensures.grows.kept c.in_ok-i.i (c.in_ok-y.ensures.grows.kept c.in_ok-i.i (c.in_ok-old.ensures.adds.kept c.in_ok-i.i (G.kept c.in_ok-i.i c.in_ok-i.ensures.has)))

pub put_at-requires-clause-value : goal.put_at-requires-clause-value
put_at-requires-clause-value c = c.in_ok-new.ensures.has

pub put_at-requires-clause-count : goal.put_at-requires-clause-count
put_at-requires-clause-count c =
    let M = c.requires.may in
    array_terms c.args.at.now M.scope c.args.target.now c.args.index.now c.args.net.now c.args.state.now.objects M.program M.fits.target_fits c.requires.index M.objects ∙ sym c.slot_length-count.ensures

pub put_at-requires-clause-may : goal.put_at-requires-clause-may
put_at-requires-clause-may c =
    let M = c.requires.may in
    let slot = c.args.target.now.slot in
    let G = bounded_grows c.value.new.net c.bounded.new.net c.args.target.now.bounds c.in_ok-i.i c.args.index.now.ty c.slot_length-count.result c.args.guard c.in_ok-bounded.ensures in
    let two = grows_then c.args.net.now.terms c.value.new.net.terms c.bounded.new.net.terms c.in_ok-i.ensures.grows G in
    let three = grows_then c.args.net.now.terms c.bounded.new.net.terms c.read_at.new.net.terms two (grows_adds c.bounded.new.net c.read_at.new.net c.in_ok-old.ensures.adds) in
    let four = grows_then c.args.net.now.terms c.read_at.new.net.terms c.right.new.net.terms three c.in_ok-y.ensures.grows in
    let five = grows_then c.args.net.now.terms c.right.new.net.terms c.operated.new.net.terms four c.in_ok-new.ensures.grows in
    record {
      program = c.args.at.now.pair.now.program;
      stored = M.fits.target_fits.stored;
      there = there_in c.args.at.now M.scope slot M.program M.fits.target_fits.object.visible M.fits.target_fits.stored;
      width = c.in_ok-new.ensures.width ∙ ap (λ (u : IntType). u.bits) c.slot_type-ty.ensures;
      objects = grown_objects c.args.at.now c.args.net.now c.operated.new.net c.args.state.now.objects five M.objects;
    }

pub returns : goal.returns
returns c =
    let slot = c.args.target.now.slot in
    done_update_element c.args.at.now c.args.net.now c.value.new.net c.bounded.new.net c.read_at.new.net c.right.new.net c.operated.new.net c.put_at.new.net c.args.state.now c.put_at.new.objects c.args.target.now c.args.index.now c.args.u.now c.args.guard
    c.in_ok-i.i c.in_ok-old.old c.in_ok-y.y c.in_ok-new.new c.slot_type-ty.result c.slot_length-count.result c.only.result
    c.only.ensures c.slot_type-ty.ensures c.slot_length-count.ensures c.requires.index c.requires.may c.in_ok-i.ensures c.in_ok-bounded.ensures
    (subst (λ (l : List TermId). IsReadAt c.bounded.new.net c.read_at.new.net l c.slot_type-ty.result.bits c.in_ok-i.i c.in_ok-old.old) c.elements.ensures c.in_ok-old.ensures) c.in_ok-y.ensures c.in_ok-new.ensures c.in_ok-put_at.ensures
