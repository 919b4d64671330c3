use Rattle.std.proofs.Common.{◌≡◌, ◌+◌, take, decimal, ap, sym, ◌∙◌, arith}
use Rattle.std.proofs.lemmas.Grind.{common_steps}
use Rattle.std.proofs.lemmas.Str.Parse.{digit_at}
use Rattle.std.specs.Str.Parse.{digits_value}
use Rattle.hwcbmc_core.proofs.NumberLemmas.{plain_decimal, front_small, decimal_of_digits, value_more}
use Rattle.hwcbmc_core.proofs.sources.number_of.Goals as goal

pub overflow_sub-digit : goal.overflow_sub-digit
overflow_sub-digit c = (digit_at c.args.digits.now c.loop-digit.digit-index c.requires c.loop-digit-test.true).0

pub returns-then-not-is_plain-clause-none : goal.returns-then-not-is_plain-clause-none
returns-then-not-is_plain-clause-none c = λ n small is. let plain = plain_decimal c.args.digits.now n small is in cc (c.if-not-is_plain.ensures)

pub returns-then-number-gt255-clause-none : goal.returns-then-number-gt255-clause-none
returns-then-number-gt255-clause-none c = λ n small is.
    let front = front_small c.args.digits.now (c.loop-digit.digit-index + 1) n small is in
    let more = value_more c.args.digits.now c.loop-digit.digit-index c.requires c.loop-digit-test.true in
    absurd (omega arith)

pub loop-digit-preserved : goal.loop-digit-preserved
loop-digit-preserved c = record {
  value = let more = value_more c.args.digits.now c.loop-digit.digit-index c.requires c.loop-digit-test.true in omega arith;
  byte = omega arith;
}

pub returns-clause-found : goal.returns-clause-found
returns-clause-found c =
    let whole : take c.loop-digit.digit-index c.args.digits.now ≡ c.args.digits.now = grind (arith, common_steps) in
    let value : c.loop-digit.number ≡ digits_value 10 c.args.digits.now = c.loop-digit.invariant.value ∙ ap (digits_value 10) whole in
    decimal_of_digits c.args.digits.now c.requires (sym c.if-not-is_plain.ensures) (omega arith) ∙ ap decimal (sym value)
