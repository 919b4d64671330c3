use Rattle.std.proofs.Common.{◌≡◌, ◌%◌, ◌+◌, ◌*◌, ◌∙◌, sym, arith}
use Rattle.hwcbmc_core.proofs.RunLemmas.{count_at_is, count_turns}
use Rattle.hwcbmc_core.proofs.judging.count_after.Goals as goal

pub returns : goal.returns
returns c =
    let few : (c.args.first + c.args.step * (c.args.edges % 256) % 256) % 256 ≡ (c.args.first + c.args.edges % 256 * c.args.step) % 256 = omega arith in
    few ∙ count_turns c.args.first c.args.step c.args.edges ∙ sym (count_at_is (record { first = c.args.first; step = c.args.step }) c.args.edges c.ranges.first.fits)
