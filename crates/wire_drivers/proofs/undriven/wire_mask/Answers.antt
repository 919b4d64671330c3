use Rattle.std.proofs.Common.{ap, sym, ◌∙◌, arith}
use Rattle.std.specs.Prelude.{◌&&◌, nat_lt}
use Rattle.wire_drivers.specs.Undriven.{is_net}
use Rattle.wire_drivers.proofs.Masks.{whole_span}
use Rattle.wire_drivers.proofs.undriven.wire_mask.Goals as goal

pub returns-in-Net : goal.returns-in-Net
returns-in-Net c k =
    let bits = c.args.signal.now.bits in
    c.span.ensures k ∙ whole_span bits bits k (omega arith) ∙ ap (λ s. is_net s && nat_lt k bits) (sym c.in-Net.is)
