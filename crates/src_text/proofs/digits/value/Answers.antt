use Rattle.std.proofs.Common.{ℕ, ◌<◌, ◌≤◌, ◌^◌, subst, sym, ◌∙◌, ap, arith}
use Rattle.std.specs.Char.{digit_value}
use Rattle.src_text.proofs.DigitLemmas.{value_of-other, with_digit-is, with_digit-fits}
use Rattle.src_text.proofs.digits.value.Goals as goal
use Rattle.src_text.proofs.digits.value.Goals.{in-Some+in-Some-with_digit, in_default}

pub returns-in-None : goal.returns-in-None
returns-in-None c =
    let small = subst (λ x. digit_value x < c.args.base) c.from.ensures (subst (λ b. digit_value c.from.result < b) c.from-in-loop-byte.ensures c.in-Some.ensures.value.0) in
    let is = c.in-Some.ensures.value.1 ∙ ap digit_value c.from.ensures in
    λ fits. c.in-None.ensures (with_digit-fits c.args.base c.args.digits.now c.loop-byte.byte-index c.loop-byte.so_far c.in-Some.digit (omega arith) c.loop-byte-test.true c.loop-byte.invariant.is small is fits)

not_below : (m n : ℕ) → (m < n → ⊥) → n ≤ m
not_below m n h = omega (arith, h)

pub loop-byte-preserved : goal.loop-byte-preserved
loop-byte-preserved c = elim c.match-to_digit.branch [
  | in-Some+in-Some-with_digit w ↦
      let small = subst (λ x. digit_value x < c.args.base) c.from.ensures (subst (λ b. digit_value c.from.result < b) c.from-in-loop-byte.ensures w.in-Some.ensures.value.0) in
      let digit_is = w.in-Some.ensures.value.1 ∙ ap digit_value c.from.ensures in
      record {
        is = w.so_far-is ∙ w.in-Some-with_digit.ensures.1 ∙ with_digit-is c.args.base c.args.digits.now c.loop-byte.byte-index c.loop-byte.so_far w.in-Some.digit (omega arith) c.loop-byte-test.true c.loop-byte.invariant.is small digit_is;
        fits = subst (λ n. n < 2 ^ 128) (sym w.so_far-is) (subst (λ n. n < 2 ^ 128) (sym w.in-Some-with_digit.ensures.1) w.in-Some-with_digit.ensures.0);
      }
  | in_default w ↦
      let large = subst (λ x. c.args.base ≤ digit_value x) c.from.ensures (subst (λ b. b ≤ digit_value c.from.result) c.from-in-loop-byte.ensures (not_below (digit_value c.from.result) c.from-in-loop-byte.result w.in_default.ensures.value)) in
      record {
        is = w.so_far-is ∙ c.loop-byte.invariant.is ∙ sym (value_of-other c.args.base c.args.digits.now c.loop-byte.byte-index c.loop-byte-test.true large);
        fits = subst (λ n. n < 2 ^ 128) (sym w.so_far-is) c.loop-byte.invariant.fits;
      }
]
