-- What selections name.
use Rattle.std.proofs.Common.{◌≡◌, ℕ, ◌+◌, ◌-◌, true, false, refl, sym, ap, ◌∙◌, subst, arith, ℤ, pos}
use Rattle.std.specs.Prelude.{◌-ℤ◌, if◌then◌else◌, nat_lt, eqb}
use Rattle.std.proofs.lemmas.Int.{ints}
use Rattle.std.proofs.lemmas.Nat.Bits.{bit_at-zero}
use Rattle.bit_sets.specs.Sets.{is_set}
use Rattle.v_views.specs.Spots.{spot, is_among, range_at, bits_at, word_at}
use Rattle.v_views.specs.Names.{blank, no_sites}
use Rattle.v_views.specs.Language.{index}
use Rattle.v_views.specs.declared.Selection.TheVariants as selection
use Rattle.flat_tree.specs.declared.expr.FlatExpr.{FlatExpr}
use Rattle.flat_tree.specs.Values as values
use Rattle.flat_tree.specs.Values.{Shape, meant, own_fixed}
use Rattle.flat_laws.proofs.Steady.{index_steady, steady}
use Rattle.flat_language.specs.Reads.{index_at, world, shape_of}
use Rattle.flat_language.proofs.Local.{flat_language}
use Rattle.flat_values.specs.Fits.{IsIndex}
use Rattle.flat_bits.specs.declared.index.Index.{Index}
use Rattle.flat_bits.specs.declared.index.Index.TheVariants.{Varying, At, Away}
use Rattle.flat_bits.specs.declared.selections.Named.{Named}
use Rattle.flat_bits.specs.declared.selections.Named.TheVariants as named
use Rattle.flat_bits.specs.Index.{IsIndexOf}
use Rattle.flat_bits.specs.Selections.{in_span, IsIndexed, IsNamed, IsCloseIndex}
use Rattle.flat_bits.proofs.Spans.{span_spots, whole_spots}

pub named_whole : (shapes : ℕ → Shape) (g bits m : ℕ) → (shapes g).bits ≡ bits → ((k : ℕ) → is_set m k ≡ in_span bits (pos 0) bits k) → IsNamed shapes g selection.Whole (named.Mask m)
named_whole shapes g bits m e h = (refl, λ k. h k ∙ whole_spots bits g k bits (omega arith) ∙ ap (λ b. is_among (bits_at g 0 b) (spot g 0 k)) (sym e))

-- n bits from a place on
spanned : (shapes : ℕ → Shape) (g bits low n k : ℕ) (z from : ℤ) → (shapes g).bits ≡ bits → (shapes g).low ≡ low → from ≡ z -ℤ pos low → in_span bits from n k ≡ is_among (range_at (shape_of (shapes g)) g (z -ℤ pos (shapes g).low) n) (spot g 0 k)
spanned shapes g bits low n k z from e l f =
    ap (λ b. in_span b from n k) (sym e) ∙ ap (λ w. in_span (shapes g).bits w n k) (f ∙ ap (λ x. z -ℤ pos x) (sym l))
    ∙ span_spots (shape_of (shapes g)) g k (z -ℤ pos (shapes g).low) n

pub named_part : (shapes : ℕ → Shape) (g bits low high end m n : ℕ) (from : ℤ) → (shapes g).bits ≡ bits → (shapes g).low ≡ low → from ≡ pos end -ℤ pos low → n ≡ high - end + 1 → ((k : ℕ) → is_set m k ≡ in_span bits from n k) → IsNamed shapes g (selection.Part high end) (named.Mask m)
named_part shapes g bits low high end m n from e l f c h =
    (refl, λ k. h k ∙ ap (λ x. in_span bits from x k) c ∙ spanned shapes g bits low (high - end + 1) k (pos end) from e l f)

-- a constant index has one value
pub index_blank : (shapes : ℕ → Shape) (i : FlatExpr) → own_fixed (meant shapes i) ≡ true → index (flat_language shapes) i blank no_sites 0 ≡ index_at shapes i
index_blank shapes i f = index_steady (meant shapes i) (steady shapes i) f (world shapes blank no_sites) values.blank 0 0

pub less_none : (z : ℤ) → z -ℤ pos 0 ≡ z
less_none z = omega (arith, ints)

-- n bits from an index on, or some places below it
indexed_mask : (shapes : ℕ → Shape) (g bits low below n m : ℕ) (i : FlatExpr) (z at : ℤ) → (shapes g).bits ≡ bits → (shapes g).low ≡ low → at ≡ z -ℤ pos below → ((k : ℕ) → is_set m k ≡ in_span bits ((z -ℤ pos below) -ℤ pos low) n k) → (k : ℕ) → is_set m k ≡ is_among (range_at (shape_of (shapes g)) g (at -ℤ pos (shapes g).low) n) (spot g 0 k)
indexed_mask shapes g bits low below n m i z at e l f h k = h k ∙ spanned shapes g bits low n k at ((z -ℤ pos below) -ℤ pos low) e l (ap (λ x. x -ℤ pos low) (sym f))

none_set : (k : ℕ) → is_set 0 k ≡ false
none_set k = ap (λ x. eqb x 1) (bit_at-zero k)

-- n bits of signal g from an index on
abbrev pub NamesBy : (ℕ → Shape) → ℕ → FlatExpr → ℤ → ℕ → Named → Type 0
NamesBy shapes g i at n named.Varying = own_fixed (meant shapes i) ≡ false
NamesBy shapes g i at n (named.Mask m) =
    (own_fixed (meant shapes i) ≡ true) × ((k : ℕ) → is_set m k ≡ is_among (range_at (shape_of (shapes g)) g (at -ℤ pos (shapes g).low) n) (spot g 0 k))

pub names_by : (shapes : ℕ → Shape) (g bits low below n : ℕ) (i : FlatExpr) (to : Index) (r : Named) (at : ℤ) → (shapes g).bits ≡ bits → (shapes g).low ≡ low → IsIndex shapes i → IsIndexOf shapes i to → IsIndexed bits low below n to r → at ≡ index (flat_language shapes) i blank no_sites 0 -ℤ pos below → NamesBy shapes g i at n r
names_by shapes g bits low below n i Varying r at e l I x h f = subst (NamesBy shapes g i at n) (sym h) (I ∙ x)
names_by shapes g bits low below n i (At z) r at e l I x (mask, is, h) f =
    let fixed = I ∙ x.0 in
    let from : at ≡ z -ℤ pos below = f ∙ ap (λ y. y -ℤ pos below) (index_blank shapes i fixed ∙ x.1) in
    subst (NamesBy shapes g i at n) (sym is) (fixed, indexed_mask shapes g bits low below n mask i z at e l from h)
names_by shapes g bits low below n i Away r at e l I x h f =
    let fixed = I ∙ x.0 in
    let from = ap (λ y. (y -ℤ pos below) -ℤ pos low) (sym (index_blank shapes i fixed)) ∙ ap (λ y. y -ℤ pos low) (sym f) in
    subst (NamesBy shapes g i at n) (sym h.0)
    (fixed, λ k. none_set k ∙ sym (h.1 (index_at shapes i) k x.1) ∙ spanned shapes g bits low n k at ((index_at shapes i -ℤ pos below) -ℤ pos low) e l from)

pub named_bit : (shapes : ℕ → Shape) (g : ℕ) (i : FlatExpr) (r : Named) → (shapes g).words ≡ 0 → NamesBy shapes g i (index (flat_language shapes) i blank no_sites 0) 1 r → IsNamed shapes g (selection.Bit i) r
named_bit shapes g i named.Varying w h = h
named_bit shapes g i (named.Mask m) w h =
    let at = index (flat_language shapes) i blank no_sites 0 in
    (h.0, λ k. h.1 k ∙ ap (λ c. is_among (if nat_lt 0 c then word_at (shape_of (shapes g)) g at else range_at (shape_of (shapes g)) g (at -ℤ pos (shapes g).low) 1) (spot g 0 k)) (sym w))

pub named_up : (shapes : ℕ → Shape) (g n : ℕ) (i : FlatExpr) (r : Named) → NamesBy shapes g i (index (flat_language shapes) i blank no_sites 0) n r → IsNamed shapes g (selection.Up i n) r
named_up shapes g n i named.Varying h = h
named_up shapes g n i (named.Mask m) h = h

pub named_down : (shapes : ℕ → Shape) (g n : ℕ) (i : FlatExpr) (r : Named) → NamesBy shapes g i (index (flat_language shapes) i blank no_sites 0 -ℤ pos (n - 1)) n r → IsNamed shapes g (selection.Down i n) r
named_down shapes g n i named.Varying h = h
named_down shapes g n i (named.Mask m) h = h

-- what leads somewhere leads near
pub close_of : (shapes : ℕ → Shape) (i : FlatExpr) (to : Index) → IsIndexOf shapes i to → IsCloseIndex to
close_of shapes i Varying h = tt
close_of shapes i (At z) h = h.2
close_of shapes i Away h = tt
