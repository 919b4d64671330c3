use Rattle.std.proofs.Common.{◌≤◌, ◌^◌, arith}
use Rattle.bits_core.proofs.Laws.{pow_le}
use Rattle.unwind_stores.proofs.elements.reached.Goals as goal

pub returns-else-width-lt32 : goal.returns-else-width-lt32
returns-else-width-lt32 c =
    let h = c.if-width-lt32.false in
    let p : 2 ^ 32 ≤ 2 ^ c.args.width = pow_le 32 c.args.width (omega arith) in
    grind arith
