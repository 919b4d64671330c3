-- What parts of targets assign.
use Rattle.std.proofs.Common.{◌≡◌, ℕ, zero, suc, ◌+◌, ◌-◌, List, [], ◌∷◌, ◌++◌, Bool, true, false, eqb, Some, refl, sym, ap, ◌∙◌, inl, inr, pos}
use Rattle.std.specs.Prelude.{if◌then◌else◌, ◌&&◌, ◌||◌, nat_lt, max, slice_get, ◌-ℤ◌}
use Rattle.std.proofs.lemmas.Bool.Decides.{eqb_tells}
use Rattle.std.proofs.lemmas.List.Folds.{list_any-append}
use Rattle.bit_sets.specs.declared.Bits.{Bits}
use Rattle.bit_sets.specs.Sets.{is_set, is_in, has}
use Rattle.v_views.specs.declared.Selection.{Selection}
use Rattle.v_views.specs.declared.Selection.TheVariants as selection
use Rattle.v_views.specs.Spots.{spot, is_among, range_at, bits_at, word_at, is_bit_of}
use Rattle.v_views.specs.Language.{index}
use Rattle.v_views.specs.Names.{blank, no_sites, is_sure, is_selected}
use Rattle.flat_tree.specs.declared.expr.FlatExpr.{FlatExpr}
use Rattle.flat_tree.specs.declared.design.FlatSignal.{FlatSignal}
use Rattle.flat_tree.specs.Values.{Shape}
use Rattle.flat_language.specs.Reads.{shape_of}
use Rattle.flat_language.proofs.Local.{flat_language}
use Rattle.flat_values.specs.Fits.{shapes_of, shape_or}
use Rattle.flat_bits.proofs.Spans.{range_other}
use Rattle.flat_writes.specs.declared.masks.Extent.{Extent}
use Rattle.flat_writes.specs.declared.masks.Extent.TheVariants.{Certain, Any}
use Rattle.flat_writes.specs.Writes.{part_bits}

bits_other : (g h k n : ℕ) → eqb g h ≡ false → is_among (bits_at g 0 n) (spot h 0 k) ≡ false
bits_other g h k zero e = refl
bits_other g h k (suc n) e = ap (λ t. (t && (eqb 0 0 && eqb n k)) || is_among (bits_at g 0 n) (spot h 0 k)) e ∙ bits_other g h k n e

-- a selection names bits of its signal alone
selected_other : (shapes : ℕ → Shape) (g h k : ℕ) (s : Selection FlatExpr) → (shapes g).words ≡ 0 → eqb g h ≡ false → is_selected (flat_language shapes) g s (spot h 0 k) ≡ false
selected_other shapes g h k selection.Whole w e = bits_other g h k (shapes g).bits e
selected_other shapes g h k (selection.Bit i) w e =
    let at = index (flat_language shapes) i blank no_sites 0 in
    ap (λ c. is_among (if nat_lt 0 c then word_at (shape_of (shapes g)) g at else range_at (shape_of (shapes g)) g (at -ℤ pos (shapes g).low) 1) (spot h 0 k)) w
    ∙ range_other (shape_of (shapes g)) g h k (at -ℤ pos (shapes g).low) 1 e
selected_other shapes g h k (selection.Part high low) w e = range_other (shape_of (shapes g)) g h k (pos low -ℤ pos (shapes g).low) (high - low + 1) e
selected_other shapes g h k (selection.Up i n) w e = range_other (shape_of (shapes g)) g h k (index (flat_language shapes) i blank no_sites 0 -ℤ pos (shapes g).low) n e
selected_other shapes g h k (selection.Down i n) w e = range_other (shape_of (shapes g)) g h k ((index (flat_language shapes) i blank no_sites 0 -ℤ pos (n - 1)) -ℤ pos (shapes g).low) n e

and_none : (b : Bool) → (b && false) ≡ false
and_none true = refl
and_none false = refl

choice_none : (b : Bool) → (if b then false else false) ≡ false
choice_none true = refl
choice_none false = refl

part_other : (shapes : ℕ → Shape) (extent : Extent) (g h k : ℕ) (s : Selection FlatExpr) → (shapes g).words ≡ 0 → eqb g h ≡ false → part_bits (flat_language shapes) extent g s (spot h 0 k) ≡ false
part_other shapes Certain g h k s w e = ap (λ x. is_sure (flat_language shapes) s && x) (selected_other shapes g h k s w e) ∙ and_none (is_sure (flat_language shapes) s)
part_other shapes Any g h k s w e =
    let sure = is_sure (flat_language shapes) s in
    let all = nat_lt 0 (max 1 (shapes g).words) && nat_lt k (shapes g).bits in
    ap (λ x. if sure then x else (eqb g h && all)) (selected_other shapes g h k s w e)
    ∙ ap (λ t. if sure then false else (t && all)) e
    ∙ choice_none sure

-- what a part assigns, by the bits of its own signal
part_own : (shapes : ℕ → Shape) (extent : Extent) (g h k : ℕ) (s : Selection FlatExpr) → (shapes g).words ≡ 0 → (eqb g h && part_bits (flat_language shapes) extent g s (spot g 0 k)) ≡ part_bits (flat_language shapes) extent g s (spot h 0 k)
part_own shapes extent g h k s w = elim (eqb_tells g h) [
  | inl t ↦
      let l = flat_language shapes in
      ap (λ x. x && part_bits l extent g s (spot g 0 k)) t.0 ∙ ap (λ j. part_bits l extent g s (spot j 0 k)) t.1
  | inr f ↦ ap (λ x. x && part_bits (flat_language shapes) extent g s (spot g 0 k)) f.0 ∙ sym (part_other shapes extent g h k s w f.0)
]

or_false : (b : Bool) → (b || false) ≡ b
or_false true = refl
or_false false = refl

-- one mask more
pub adds_part : (shapes : ℕ → Shape) (extent : Extent) (g mask : ℕ) (s : Selection FlatExpr) (old : List Bits) → (shapes g).words ≡ 0 → ((k : ℕ) → is_set mask k ≡ part_bits (flat_language shapes) extent g s (spot g 0 k)) → (h k : ℕ) → is_in (old ++ record { signal = g; mask = mask } ∷ []) h k ≡ (is_in old h k || part_bits (flat_language shapes) extent g s (spot h 0 k))
adds_part shapes extent g mask s old w m h k =
    let one : Bits = record { signal = g; mask = mask } in
    list_any-append (has h k) old (one ∷ [])
    ∙ ap (λ x. is_in old h k || x) (or_false (has h k one) ∙ ap (λ x. eqb g h && x) (m k) ∙ part_own shapes extent g h k s w)

-- a signal of the design
pub shape_words : (signals : List FlatSignal) (g : ℕ) (signal : FlatSignal) → slice_get signals g ≡ Some signal → signal.words ≡ 0 → (shapes_of signals g).words ≡ 0
shape_words signals g signal e w = ap (λ (s : Shape). s.words) (ap shape_or e) ∙ w
