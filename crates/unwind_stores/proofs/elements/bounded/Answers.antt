use Rattle.std.proofs.Common.{refl, ap, ◌∙◌, subst}
use Rattle.bits_core.specs.Word.{number, bit}
use Rattle.joint_ir.specs.Steps.{is_within}
use Rattle.sized_terms.specs.Sized.{bits}
use Rattle.unrolled.specs.declared.Unrolled.{Unrolled}
use Rattle.expression_steps.proofs.Arrays.{width_bounds}
use Rattle.unwind_state.proofs.Gates.{adds_built}
use Rattle.unwind_stores.specs.Stores.{IsTested}
use Rattle.unwind_stores.proofs.elements.bounded.Goals as goal

pub within-requires-clause-some : goal.within-requires-clause-some
within-requires-clause-some c = (width_bounds c.args.net.now.terms c.args.index c.len.ensures.proper c.requires.has).0

pub within-requires-clause-wide : goal.within-requires-clause-wide
within-requires-clause-wide c = (width_bounds c.args.net.now.terms c.args.index c.len.ensures.proper c.requires.has).1

pub returns : goal.returns
returns c =
    let net : Unrolled = record { terms = c.within.new.terms; list = c.args.net.now.list } in
    let W = c.in_ok-within.ensures in
    record {
      between = net;
      test = c.in_ok-within.within;
      adds = adds_built c.args.net.now net _ 3 W.builds refl;
      is = λ v r. W.value v r ∙ ap (λ w. bit (is_within c.args.count (number c.args.from.signed w (bits v c.args.index)))) c.requires.width;
      tested = subst (IsTested net c.test.new.net c.args.guard) c.check_for.ensures c.in_ok-test.ensures;
    }
