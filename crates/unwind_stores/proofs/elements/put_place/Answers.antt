use Rattle.std.proofs.Common.{refl, ap, ◌∙◌}
use Rattle.std.specs.Prelude.{bit_and}
use Rattle.unrolled.specs.declared.Unrolled.{Unrolled}
use Rattle.element_terms.proofs.Parts.{place_made}
use Rattle.expression_steps.proofs.Arrays.{width_bounds}
use Rattle.unwind_state.specs.Guards.{bit_at}
use Rattle.unwind_state.proofs.Gates.{adds_built, adds_then}
use Rattle.unwind_stores.proofs.Rows.{old_has}
use Rattle.unwind_stores.proofs.elements.put_place.Goals as goal

pub constant-requires-clause-some : goal.constant-requires-clause-some
constant-requires-clause-some c = (width_bounds c.args.net.now.terms c.args.index c.len.ensures.proper c.requires.has).0

pub constant-requires-clause-within : goal.constant-requires-clause-within
constant-requires-clause-within c = (width_bounds c.args.net.now.terms c.args.index c.len.ensures.proper c.requires.has).1

pub put-requires-clause-old : goal.put-requires-clause-old
put-requires-clause-old c =
    let M = c.requires.may in
    old_has M.program c.args.net.now.terms c.and_bit.new.net.terms c.args.objects.now c.args.slot c.args.place c.args.value.width M.there M.width
    (λ x h. c.in_ok-under.ensures.adds.kept x (c.in_ok-here.ensures.builds.kept x (c.in_ok-number.ensures.builds.kept x h))) M.objects

pub returns : goal.returns
returns c =
    let net : Unrolled = record { terms = c.two.new.terms; list = c.args.net.now.list } in
    let P = place_made c.args.net.now.terms c.constant.new.terms c.two.new.terms c.args.index c.in_ok-number.number c.in_ok-here.here c.args.place c.requires.below c.in_ok-number.ensures c.in_ok-here.ensures in
    record {
      between = c.and_bit.new.net;
      under = c.in_ok-under.under;
      adds = adds_then c.args.net.now net c.and_bit.new.net (adds_built c.args.net.now net _ 2 P.builds refl) c.in_ok-under.ensures.adds;
      is = λ v r. c.in_ok-under.ensures.value v r ∙ ap (bit_and (bit_at v c.args.guard)) (P.value v (c.in_ok-under.ensures.adds.grown v r));
      put = c.in_ok-put.ensures;
    }
