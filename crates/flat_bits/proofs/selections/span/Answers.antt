use Rattle.std.proofs.Common.{◌≡◌, ◌<◌, ◌+◌, ◌*◌, ◌%◌, ◌^◌, ◌∙◌, ℕ, ℤ, pos, sym, ap, subst, arith, w64}
use Rattle.std.specs.Prelude.{◌+ℤ◌, ◌≤ℤ◌, ◌<ℤ◌, bit_or}
use Rattle.std.proofs.lemmas.Int.{ints}
use lib.IntN.{nat_abs}
use mir.Val.{to_z, of_z}
use Rattle.bit_sets.specs.Sets.{is_set}
use Rattle.flat_bits.specs.Selections.{in_span}
use Rattle.flat_bits.proofs.Spans.{span_hit, span_miss, place_beyond, place_low, place_is, abs_is, below_is}
use Rattle.flat_bits.proofs.selections.span.Goals as goal
use Rattle.flat_bits.proofs.selections.span.Goals.{then-place-ge0+then-place-bits, then-place-ge0+else-place-bits, else-place-ge0}

pub loop-j-preserved : goal.loop-j-preserved
loop-j-preserved c =
    let bits = c.args.bits in
    let j = c.loop-j.j in
    let from : ℤ = to_z w64 (of_z w64 c.args.from) in
    let few : j < 2 ^ 8 = omega arith in
    let place = place_is c.args.from j c.requires.low c.requires.high few in
    elim c.if-place-ge0.branch [
      | then-place-ge0+then-place-bits w ↦
          let low : pos 0 ≤ℤ (from +ℤ pos j) = omega (arith, ints, w.if-place-ge0.true, place) in
          let high : (from +ℤ pos j) <ℤ pos bits = omega (arith, ints, w.if-place-bits.true, place, c.ranges.bits.fits) in
          let at : ℤ = from +ℤ pos j in
          let p = nat_abs at in
          let is : at ≡ pos p = abs_is at low in
          let mask : c.if-place-ge0.mask ≡ bit_or c.loop-j.mask (1 * 2 ^ p % 2 ^ 64) = w.mask-is ∙ ap (λ z. bit_or c.loop-j.mask (1 * 2 ^ nat_abs z % 2 ^ 64)) place in
          subst (λ m. (k : ℕ) → is_set m k ≡ in_span bits from (j + 1) k) (sym mask) (span_hit bits from c.loop-j.mask j p is (below_is at p bits is high) c.requires.bits c.loop-j.invariant)
      | then-place-ge0+else-place-bits w ↦
          let high : pos bits ≤ℤ (from +ℤ pos j) = omega (arith, ints, w.if-place-bits.false, place, c.ranges.bits.fits) in
          subst (λ m. (k : ℕ) → is_set m k ≡ in_span bits from (j + 1) k) (sym w.mask-is) (span_miss bits from c.loop-j.mask j (λ k. place_beyond bits k (from +ℤ pos j) high) c.loop-j.invariant)
      | else-place-ge0 w ↦
          let low : (from +ℤ pos j) <ℤ pos 0 = omega (arith, ints, w.if-place-ge0.false, place) in
          subst (λ m. (k : ℕ) → is_set m k ≡ in_span bits from (j + 1) k) (sym w.mask-is) (span_miss bits from c.loop-j.mask j (λ k. place_low bits k (from +ℤ pos j) low) c.loop-j.invariant)
    ]
