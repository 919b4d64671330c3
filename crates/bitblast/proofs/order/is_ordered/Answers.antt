use Rattle.std.proofs.Common.{◌≡◌, ◌<◌, ℕ, Some, length, refl, slice_index, subst, drop, ◌∙◌, arith}
use Rattle.std.specs.Prelude.{EachIndex, slice_get}
use Rattle.std.proofs.lemmas.List.{take_at}
use Rattle.std.proofs.lemmas.Option.{slice_get_within}
use Rattle.word_eqs.specs.declared.list.Step.{Step}
use Rattle.bitblast.specs.Order.{AreEarly, AreLatest}
use Rattle.bitblast.proofs.Placed.{in_order}
use Rattle.bitblast.proofs.order.is_ordered.Goals as goal

pub are_early-requires-clause-fit : goal.are_early-requires-clause-fit
are_early-requires-clause-fit c = λ j s at. (c.if-not-place_all.ensures refl).fit j s (slice_get_within c.args.list.now j s at) at

pub returns : goal.returns
returns c = λ e.
    let placed = c.if-not-place_all.ensures refl in
    let n : length c.place_all.new.place ≡ c.in_ok-place.place.len = omega (arith, placed.len, c.in_ok-place.ensures.len, c.vars.ensures.value) in
    let same = take_at c.place_all.new.place (drop (length c.place_all.new.place) c.in_ok-place.place.items) c.in_ok-place.place.len n in
    in_order c.args.terms.now c.args.list.now c.place_all.new.place c.in_ok-last.last.items c.vars.ensures.proper placed
    (subst (λ p. AreLatest c.args.terms.now p c.in_ok-last.last.items (length c.args.terms.now.terms)) (c.deref.ensures.value ∙ same) c.in_ok-last.ensures)
    (subst (λ p. EachIndex p (λ x. 0 < slice_index p x)) (c.deref-2.ensures.value ∙ same) (c.if-not-all_placed.ensures.0 refl))
    (subst (λ l. (j : ℕ) (s : Step) → slice_get c.args.list.now j ≡ Some s → AreEarly l j s) c.deref-3.ensures.value (c.are_early.ensures e))
