use Rattle.std.proofs.Common.{◌∙◌, ◌+◌, ◌-◌, ap}
use Rattle.flat_bits.specs.Selections.{in_span}
use Rattle.flat_bits.proofs.Spans.{part_is}
use Rattle.flat_bits.proofs.selections.part.Goals as goal

pub returns : goal.returns
returns c k =
    c.span.ensures k ∙ ap (λ z. in_span c.args.bits z (c.args.high - c.args.end + 1) k) (part_is c.args.end c.args.low c.ranges.end.fits c.ranges.low.fits)
