use Rattle.std.proofs.Common.{◌<◌, ◌≤◌, ◌+◌, ◌^◌, sym, ◌∙◌, arith}
use Rattle.std.proofs.Common.{ap}
use Rattle.bits_core.specs.Word.{resized, modulo}
use Rattle.bits_core.proofs.Laws.{below_half, above_half, cut_pow, extend_high, wrap_small, signed_low, pow_le}
use Rattle.bits_core.proofs.arithmetic.resize.Goals as goal

pub returns-then-to-w : goal.returns-then-to-w
returns-then-to-w c =
    let h = c.if-to-w.true in
    c.low-then-to-w.ensures ∙ cut_pow c.args.to c.args.w c.args.x h c.requires.word ∙ ap (λ s. resized c.args.to s c.args.w c.args.x) (sym c.if-not-signed.false)

pub returns-then-is_low_half : goal.returns-then-is_low_half
returns-then-is_low_half c =
    let le = pow_le c.args.w c.args.to (omega arith) in
    let word = c.requires.word in
    let lt : c.args.x < 2 ^ c.args.to = omega arith in
    let half : c.args.x + c.args.x < 2 ^ c.args.w = below_half (2 ^ c.args.w) c.args.x (sym c.is_low_half.ensures ∙ c.if-is_low_half.true) in
    sym (ap (λ s. resized c.args.to s c.args.w c.args.x) c.if-not-signed.false ∙ ap (modulo c.args.to) (signed_low (2 ^ c.args.w) c.args.x half) ∙ wrap_small (2 ^ c.args.to) c.args.x lt)

pub overflow_sub-result-2 : goal.overflow_sub-result-2
overflow_sub-result-2 c =
    let le = pow_le c.args.w c.args.to (omega arith) in
    omega arith

pub returns : goal.returns
returns c =
    let le = pow_le c.args.w c.args.to (omega arith) in
    let half : 2 ^ c.args.w ≤ c.args.x + c.args.x = above_half (2 ^ c.args.w) c.args.x (sym c.is_low_half.ensures ∙ c.if-is_low_half.false) in
    extend_high (2 ^ c.args.to) (2 ^ c.args.w) c.args.x _ _ c.most-wide.ensures c.most-narrow.ensures le c.requires.word half ∙ ap (λ s. resized c.args.to s c.args.w c.args.x) (sym c.if-not-signed.false)
