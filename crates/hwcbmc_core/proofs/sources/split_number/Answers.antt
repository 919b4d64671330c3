use Rattle.std.proofs.Common.{◌∙◌, take, drop, decimal}
use Rattle.std.proofs.lemmas.List.{take-append-drop}
use Rattle.hwcbmc_core.proofs.NumberLemmas.{digits_end, AllDigits-decimal}
use Rattle.hwcbmc_core.proofs.sources.split_number.Goals as goal

pub returns-in_err-number-clause-none : goal.returns-in_err-number-clause-none
returns-in_err-number-clause-none c = rw c.from_residual.ensures (λ n rest small ends is.
    let k = c.count_digits.result in
    let ends_alike = digits_end (take k c.args.text.now) (decimal n) (drop k c.args.text.now) rest c.count_digits.ensures.digits (AllDigits-decimal n small) c.count_digits.ensures.all ends
    (take-append-drop k c.args.text.now ∙ is) in
    c.in_err-number.ensures.none n small (c.split_at.ensures.front ∙ ends_alike.0))
