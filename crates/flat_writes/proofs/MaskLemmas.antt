-- Masks of parts of targets.
use Rattle.std.proofs.Common.{◌≡◌, ℕ, ◌-◌, ◌*◌, ◌%◌, ◌^◌, ◌<◌, false, eqb, inl, inr, refl, sym, ap, ◌∙◌, subst, arith}
use Rattle.std.specs.Prelude.{if◌then◌else◌, ◌&&◌, nat_lt, max}
use Rattle.std.proofs.Math.Nat.{mod-eq_of_lt}
use Rattle.std.proofs.Math.Pow.{pow-lt}
use Rattle.std.proofs.lemmas.Bool.{eq-eqb, cases_lt, lt-ltb, le-ltb}
use Rattle.std.proofs.lemmas.Nat.Bits.{bit_at_ones, bit_at_ones_above, bit_at-zero}
use Rattle.bit_sets.specs.Sets.{is_set}
use Rattle.v_views.specs.declared.Selection.{Selection}
use Rattle.v_views.specs.Spots.{spot}
use Rattle.v_views.specs.Names.{is_sure, is_selected}
use Rattle.flat_tree.specs.declared.expr.FlatExpr.{FlatExpr}
use Rattle.flat_tree.specs.Values.{Shape}
use Rattle.flat_language.proofs.Local.{flat_language}
use Rattle.flat_bits.specs.declared.selections.Named.TheVariants as named
use Rattle.flat_bits.specs.Selections.{IsNamed}
use Rattle.flat_writes.specs.declared.masks.Extent.{Extent}
use Rattle.flat_writes.specs.declared.masks.Extent.TheVariants.{Certain, Any}
use Rattle.flat_writes.specs.Writes.{part_bits}

-- the lowest b bits
pub full_is : (b k : ℕ) → is_set (2 ^ b - 1) k ≡ nat_lt k b
full_is b k = elim (cases_lt k b) [
  | inl l ↦ ap (λ x. eqb x 1) (bit_at_ones b k l) ∙ sym (lt-ltb k b l)
  | inr g ↦ ap (λ x. eqb x 1) (bit_at_ones_above b k g) ∙ sym (le-ltb k b g)
]

pub full_small : (b : ℕ) → b < 64 → 1 * 2 ^ b % 18446744073709551616 - 1 ≡ 2 ^ b - 1
full_small b lt =
    let one : 1 * 2 ^ b ≡ 2 ^ b = omega arith in
    let below : 2 ^ b < 2 ^ 64 = pow-lt lt in
    ap (λ x. x - 1) (ap (λ x. x % 18446744073709551616) one ∙ mod-eq_of_lt below)

-- bits that are named in every view
pub masked : (shapes : ℕ → Shape) (extent : Extent) (g m k : ℕ) (s : Selection FlatExpr) → IsNamed shapes g s (named.Mask m) → is_set m k ≡ part_bits (flat_language shapes) extent g s (spot g 0 k)
masked shapes Certain g m k s h = h.1 k ∙ sym (ap (λ b. b && is_selected (flat_language shapes) g s (spot g 0 k)) h.0)
masked shapes Any g m k s h =
    let all = eqb g g && (nat_lt 0 (max 1 (shapes g).words) && nat_lt k (shapes g).bits) in
    h.1 k ∙ sym (ap (λ b. if b then is_selected (flat_language shapes) g s (spot g 0 k) else all) h.0)

-- bits that depend on the view: none for certain
pub varying_none : (shapes : ℕ → Shape) (extent : Extent) (g k : ℕ) (s : Selection FlatExpr) → extent ≡ Certain → is_sure (flat_language shapes) s ≡ false → is_set 0 k ≡ part_bits (flat_language shapes) extent g s (spot g 0 k)
varying_none shapes extent g k s e f =
    subst (λ x. is_set 0 k ≡ part_bits (flat_language shapes) x g s (spot g 0 k)) (sym e)
    (ap (λ x. eqb x 1) (bit_at-zero k) ∙ sym (ap (λ b. b && is_selected (flat_language shapes) g s (spot g 0 k)) f))

-- and each bit of the signal perhaps
pub varying_all : (shapes : ℕ → Shape) (extent : Extent) (g m k bits : ℕ) (s : Selection FlatExpr) → extent ≡ Any → is_sure (flat_language shapes) s ≡ false → (shapes g).words ≡ 0 → (shapes g).bits ≡ bits → is_set m k ≡ nat_lt k bits → is_set m k ≡ part_bits (flat_language shapes) extent g s (spot g 0 k)
varying_all shapes extent g m k bits s e f w b h =
    let some = is_selected (flat_language shapes) g s (spot g 0 k) in
    subst (λ x. is_set m k ≡ part_bits (flat_language shapes) x g s (spot g 0 k)) (sym e)
    (h ∙ ap (λ n. nat_lt k n) (sym b)
    ∙ sym (ap (λ t. if t then some else (eqb g g && (nat_lt 0 (max 1 (shapes g).words) && nat_lt k (shapes g).bits))) f
    ∙ ap (λ t. t && (nat_lt 0 (max 1 (shapes g).words) && nat_lt k (shapes g).bits)) (eq-eqb g g refl)
    ∙ ap (λ c. nat_lt 0 (max 1 c) && nat_lt k (shapes g).bits) w))
