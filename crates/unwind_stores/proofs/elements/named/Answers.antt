use Rattle.std.proofs.Common.{◌≤◌, arith}
use Rattle.expression_steps.proofs.Arrays.{all_taken}
use Rattle.unwind_stores.proofs.elements.named.Goals as goal

pub returns-else-width-lt32 : goal.returns-else-width-lt32
returns-else-width-lt32 c =
    let h = c.if-width-lt32.false in
    all_taken c.args.elements.now c.args.width c.requires (omega arith)
