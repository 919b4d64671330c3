-- The places of parts.
use Rattle.std.proofs.Common.{◌≡◌, ℕ, zero, suc, ◌+◌, ◌-◌, ◌<◌, ◌≤◌, Some, None, ◌∷◌, refl, sym, ap, ◌∙◌, subst, arith}
use Rattle.std.specs.Prelude.{if◌then◌else◌, nat_lt, max, pos, ◌+ℤ◌, ◌-ℤ◌}
use Rattle.std.proofs.lemmas.Int.{ints}
use Rattle.std.proofs.lemmas.Bool.Decides.{Decides-ltb}
use Rattle.v_views.specs.declared.Selection.TheVariants as selection
use Rattle.v_views.specs.Spots.{Shape, spot, place_at, range_at, bits_at}
use Rattle.flat_tree.specs.Values as values
use Rattle.view_rows.specs.declared.stores.Part.{Part}
use Rattle.view_rows.specs.Rows.{bits_from}
use Rattle.target_parts.specs.Places.{IsSelected}

-- all bits of a word
pub all_bits : (g i n : ℕ) → bits_from g i 0 n ≡ bits_at g i n
all_bits g i zero = refl
all_bits g i (suc n) = let e : 0 + n ≡ n = omega arith in ap (λ k. Some (spot g i k) ∷ bits_from g i 0 n) e ∙ ap (λ l. Some (spot g i n) ∷ l) (all_bits g i n)

-- bits of a vector from a place on
pub some_bits : (s : Shape) (g low n : ℕ) → low + n ≤ s.bits → bits_from g 0 low n ≡ range_at s g (pos low) n
some_bits s g low zero le = refl
some_bits s g low (suc n) le =
    let lt : low + n < s.bits = omega arith in
    let here : place_at s g (pos (low + n)) ≡ Some (spot g 0 (low + n)) = ap (λ b. if b then Some (spot g 0 (low + n)) else None) ((Decides-ltb (low + n) s.bits).1 lt) in
    let sum : pos low +ℤ pos n ≡ pos (low + n) = omega (arith, ints) in
    ap (λ l. Some (spot g 0 (low + n)) ∷ l) (some_bits s g low n (omega arith)) ∙ sym (ap (λ o. o ∷ range_at s g (pos low) n) (ap (place_at s g) sum ∙ here))

from_low : (low end : ℕ) → low ≤ end → pos (end - low) ≡ pos end -ℤ pos low
from_low low end le = omega (arith, ints)

pub whole_selected : (shapes : ℕ → values.Shape) (g bits high : ℕ) → (shapes g).bits ≡ bits → 0 < bits → bits ≤ 64 → high ≡ bits - 1 → IsSelected shapes g selection.Whole (record { signal = g; word = 0; high = high; low = 0 })
whole_selected shapes g bits high is some most top = record {
  places = λ u v k. let n : high - 0 + 1 ≡ (shapes g).bits = omega (arith, is, some, top) in ap (bits_from g 0 0) n ∙ all_bits g 0 (shapes g).bits;
  sites = refl;
  fits = λ count lt. record { signal = lt; word = omega arith; order = omega arith; high = omega (arith, is, some, top) };
  narrow = omega (arith, most, some, top);
  bits = omega (arith, is, some, top);
}

pub part_selected : (shapes : ℕ → values.Shape) (g bits low high end a b : ℕ) → (shapes g).bits ≡ bits → bits ≤ 64 → (shapes g).low ≡ low → low ≤ end → end ≤ high → high < low + bits → a ≡ high - low → b ≡ end - low → IsSelected shapes g (selection.Part high end) (record { signal = g; word = 0; high = a; low = b })
part_selected shapes g bits low high end a b is most begin le order within top bottom = record {
  places = λ u v k.
      let n : a - b + 1 ≡ high - end + 1 = omega (arith, le, order, top, bottom) in
      let s : Shape = record { bits = (shapes g).bits; low = (shapes g).low; words = (shapes g).words } in
      ap (bits_from g 0 b) n
      ∙ some_bits s g b (high - end + 1) (omega (arith, is, le, order, within, bottom))
      ∙ ap (λ z. range_at s g z (high - end + 1)) (ap pos bottom ∙ from_low low end le ∙ ap (λ l. pos end -ℤ pos l) (sym begin));
  sites = refl;
  fits = λ count lt. record { signal = lt; word = omega arith; order = omega (arith, le, order, top, bottom); high = omega (arith, is, le, order, within, top) };
  narrow = omega (arith, most, le, order, within, top);
  bits = omega (arith, le, order, top, bottom);
}
