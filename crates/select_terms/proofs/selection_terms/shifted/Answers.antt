use Rattle.std.proofs.Common.{ap, ◌∙◌}
use Rattle.bits_core.specs.Word.{Word}
use Rattle.bits_core.specs.Ops.{word1}
use Rattle.bits_core.specs.declared.op.Op1.TheVariants.{Not}
use Rattle.select_terms.proofs.Steps.{shifted_made}
use Rattle.select_terms.proofs.selection_terms.shifted.Goals as goal

pub returns-clause-adds : goal.returns-clause-adds
returns-clause-adds c =
    shifted_made c.args.terms.now c.place.new.terms c.constant.new.terms c.bits_from.new.terms c.bits_from-2.new.terms c.either.new.terms c.args.signal.0 c.args.index.0 c.args.site.0 c.in_ok-place.place.0 c.in_ok-ones.ones.0 c.in_ok-read.read.0 c.in_ok-mask.mask.0 c.in_ok-t.t.0 c.width_of-bits.result c.width_of-whole.result c.args.width c.args.lowest c.args.signed c.apply1.result
    (c.apply1.ensures ∙ ap (λ (x : Word). word1 Not x) c.from_low_bits.ensures.value) c.width_of-bits.ensures.width c.width_of-whole.ensures.width
    c.in_ok-place.ensures.adds c.in_ok-ones.ensures.adds c.in_ok-read.ensures.adds c.in_ok-mask.ensures.adds c.in_ok-t.ensures.adds
