use Rattle.std.proofs.Common.{◌≢◌, ◌^◌, sym, ◌∙◌, arith}
use Rattle.bits_core.proofs.Laws.{remainder_up}
use Rattle.bits_core.proofs.arithmetic.remainder_signed.Goals as goal

pub returns-then-is_low_half : goal.returns-then-is_low_half
returns-then-is_low_half c =
    let ne : c.args.y ≢ 0 = omega arith in
    remainder_up (2 ^ c.args.w) c.args.x c.args.y _ _ c.requires.left ne (sym c.is_low_half.ensures ∙ c.if-is_low_half.true) c.size_of_signed-a.ensures c.size_of_signed-b.ensures
