use Rattle.std.proofs.Common.{◌∙◌, sym, refl, ap, subst}
use Rattle.flat_bits.specs.declared.selections.Named.TheVariants as named
use Rattle.flat_bits.specs.Selections.{in_span, IsIndexed, IsCloseIndex}
use Rattle.flat_bits.proofs.Spans.{span_away, difference_is}
use Rattle.flat_bits.proofs.selections.indexed.Goals as goal

pub returns-in-At : goal.returns-in-At
returns-in-At c =
    let bits = c.args.bits in
    let n = c.args.n in
    let close = subst IsCloseIndex c.in-At.is c.requires.close in
    let from = difference_is c.in-At.at c.args.below c.args.low close.0 close.1 c.ranges.below.fits c.ranges.low.fits in
    subst (λ i. IsIndexed bits c.args.low c.args.below n i (named.Mask c.span.result)) (sym c.in-At.is)
    (c.span.result, refl, λ k. c.span.ensures k ∙ ap (λ z. in_span bits z n k) from)

pub returns-in-Away : goal.returns-in-Away
returns-in-Away c =
    subst (λ i. IsIndexed c.args.bits c.args.low c.args.below c.args.n i (named.Mask 0)) (sym c.in-Away.is)
    (refl, λ z k a. span_away c.args.bits c.args.low c.args.below c.args.n k z a c.requires.below c.ranges.low.fits c.requires.n c.requires.bits)
