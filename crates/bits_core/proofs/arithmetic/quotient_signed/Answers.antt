use Rattle.std.proofs.Common.{◌≡◌, ◌≢◌, ◌^◌, sym, ◌∙◌, arith, rules}
use Rattle.bits_core.proofs.Laws.{quotient_alike}
use Rattle.bits_core.proofs.arithmetic.quotient_signed.Goals as goal

pub returns-then-is_low_half : goal.returns-then-is_low_half
returns-then-is_low_half c =
    let e : c.is_low_half.result ≡ c.is_low_half-2.result = search rules in
    let ne : c.args.y ≢ 0 = omega arith in
    quotient_alike (2 ^ c.args.w) c.args.x c.args.y _ _ c.is_low_half.result c.requires.left c.requires.right ne (sym c.is_low_half.ensures) (sym c.is_low_half-2.ensures ∙ sym e) c.size_of_signed-a.ensures c.size_of_signed-b.ensures
