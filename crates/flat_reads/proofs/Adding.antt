-- Sets that grow.
use Rattle.std.proofs.Common.{◌≡◌, ℕ, ◌<◌, List, [], ◌∷◌, ◌++◌, length, get_or, Bool, true, false, eqb, Some, inl, inr, refl, sym, ap, ◌∙◌}
use Rattle.std.specs.Prelude.{◌&&◌, ◌||◌}
use Rattle.std.proofs.lemmas.Bool.Decides.{eqb_tells}
use Rattle.std.proofs.lemmas.List.Folds.{list_any-append}
use Rattle.std.proofs.lemmas.Option.{slice_get-get_or}
use Rattle.bit_sets.specs.declared.Bits.{Bits}
use Rattle.bit_sets.specs.Sets.{is_set, is_in, has}
use Rattle.v_views.specs.Spots.{Spot, spot}
use Rattle.flat_tree.specs.declared.design.FlatSignal.{FlatSignal}
use Rattle.flat_values.specs.Fits.{shape_of, shape_or, shapes_of}

or_false : (b : Bool) → (b || false) ≡ b
or_false true = refl
or_false false = refl

or_assoc : (a b c : Bool) → ((a || b) || c) ≡ (a || (b || c))
or_assoc true b c = refl
or_assoc false b c = refl

-- one mask more, of a set of bits of signal g alone
pub adds_mask : (f : Spot → Bool) (g mask : ℕ) (old : List Bits) → ((k : ℕ) → is_set mask k ≡ f (spot g 0 k)) → ((h k : ℕ) → eqb g h ≡ false → f (spot h 0 k) ≡ false) → (h k : ℕ) → is_in (old ++ record { signal = g; mask = mask } ∷ []) h k ≡ (is_in old h k || f (spot h 0 k))
adds_mask f g mask old m other h k =
    let one : Bits = record { signal = g; mask = mask } in
    list_any-append (has h k) old (one ∷ [])
    ∙ ap (λ x. is_in old h k || x)
    (or_false (has h k one)
    ∙ elim (eqb_tells g h) [
      | inl t ↦ ap (λ x. x && is_set mask k) t.0 ∙ m k ∙ ap (λ j. f (spot j 0 k)) t.1
      | inr n ↦ ap (λ x. x && is_set mask k) n.0 ∙ sym (other h k n.0)
    ])

pub adds_none : (a : Bool) → a ≡ (a || false)
adds_none a = sym (or_false a)

-- first one, then another
pub adds_both : (old one new a b : Bool) → one ≡ (old || a) → new ≡ (one || b) → new ≡ (old || (a || b))
adds_both old one new a b x y = y ∙ ap (λ z. z || b) x ∙ or_assoc old a b

pub adds_three : (old one two new a b c : Bool) → one ≡ (old || a) → two ≡ (one || b) → new ≡ (two || c) → new ≡ (old || (a || (b || c)))
adds_three old one two new a b c x y z = adds_both old one new a (b || c) x (adds_both one two new b c y z)

-- a signal of the design
pub shape_at : (signals : List FlatSignal) (g : ℕ) (signal : FlatSignal) → g < length signals → signal ≡ get_or signals g signal → shapes_of signals g ≡ shape_of signal
shape_at signals g signal lt is = ap shape_or (slice_get-get_or signals g signal lt ∙ ap Some (sym is))
