-- What selects of vectors read.
use Rattle.std.proofs.Common.{◌≡◌, ℕ, zero, suc, ◌+◌, ◌-◌, ◌<◌, ◌≤◌, Bool, true, false, eqb, inl, inr, refl, sym, ap, ◌∙◌, subst, arith, ℤ, pos}
use Rattle.std.specs.Prelude.{◌-ℤ◌, ◌&&◌, ◌||◌, if◌then◌else◌, nat_lt, nat_le, max}
use Rattle.std.proofs.lemmas.Bool.{cases_Bool, cases_lt, eq-eqb, lt-ltb, le-ltb}
use Rattle.std.proofs.lemmas.Bool.Decides.{eqb_tells, nat_tests}
use Rattle.std.proofs.lemmas.Int.{ints}
use denote.Hole.Carrier.{hidden}
use Rattle.bit_sets.specs.Sets.{is_set}
use Rattle.v_views.specs.Spots.{Spot, spot, is_among, range_at, word_at, is_bit_of}
use Rattle.v_views.specs.Names.{blank, no_sites}
use Rattle.v_views.specs.Language.{index}
use Rattle.flat_tree.specs.declared.expr.FlatExpr.{FlatExpr}
use Rattle.flat_tree.specs.declared.expr.FlatExpr as flat
use Rattle.flat_tree.specs.declared.expr.FlatExpr.TheBlock.{hidden-the_row-FlatExpr-0}
use Rattle.flat_tree.specs.declared.expr.FlatSelection.{FlatSelection}
use Rattle.flat_tree.specs.declared.expr.FlatSelection as selection
use Rattle.flat_tree.specs.declared.expr.FlatSelection.TheVariants as made
use Rattle.flat_tree.specs.Values.{Shape}
use Rattle.flat_language.specs.Reads.{shape_of, index_at, is_constant, is_part, span_read, at_read, reads, select_reads, index_reads}
use Rattle.flat_language.proofs.Local.{flat_language}
use Rattle.flat_values.specs.Fits.{IsIndex, is_number, FitsSelect}
use Rattle.flat_bits.specs.declared.index.Index.{Index}
use Rattle.flat_bits.specs.declared.selections.Named.{Named}
use Rattle.flat_bits.specs.declared.selections.Named.TheVariants as named
use Rattle.flat_bits.specs.Index.{IsIndexOf}
use Rattle.flat_bits.specs.Selections.{in_span, IsIndexed}
use Rattle.flat_bits.proofs.Naming.{NamesBy, names_by, index_blank}
use Rattle.flat_bits.proofs.Spans.{range_other}
use Rattle.flat_reads.specs.Sets.{FitsRead, HasIndex, IsReadBy, is_steady, selected}

none_right : (a : Bool) → (a && false) ≡ false
none_right true = refl
none_right false = refl

hit : (a : Bool) → ((a && true) || (a && (true && false))) ≡ (a && (true && true))
hit true = refl
hit false = refl

at_least : (a b : ℕ) → a ≤ b → nat_le a b ≡ true
at_least a b le = grind (arith, nat_tests)

not_least : (a b : ℕ) → b < a → nat_le a b ≡ false
not_least a b lt = grind (arith, nat_tests)

-- a bound of one more, but for the bound itself
one_more : (k m : ℕ) → (m ≡ k → ⊥) → nat_lt k m ≡ nat_lt k (suc m)
one_more k m ne = elim (cases_lt k m) [
  | inl l ↦ lt-ltb k m l ∙ sym (lt-ltb k (suc m) (omega arith))
  | inr g ↦ le-ltb k m g ∙ sym (le-ltb k (suc m) (elim (cases_lt m k) [ inl l ↦ omega arith | inr h ↦ absurd (ne (omega arith)) ]))
]

-- places from a number on, by bounds
span_bounds : (bits p n k : ℕ) → in_span bits (pos p) n k ≡ (nat_lt k bits && (nat_le p k && nat_lt k (p + n)))
span_bounds bits p zero k = elim (cases_lt k p) [
  | inl l ↦ sym (ap (λ t. nat_lt k bits && (t && nat_lt k (p + zero))) (not_least p k l) ∙ none_right (nat_lt k bits))
  | inr g ↦ sym (ap (λ t. nat_lt k bits && (nat_le p k && t)) (le-ltb k (p + zero) (omega arith)) ∙ ap (λ t. nat_lt k bits && t) (none_right (nat_le p k)) ∙ none_right (nat_lt k bits))
]
span_bounds bits p (suc n) k =
    let a = nat_lt k bits in
    let rest = in_span bits (pos p) n k in
    let next : suc (p + n) ≡ p + suc n = omega arith in
    elim (eqb_tells (p + n) k) [
      | inl t ↦
          let le : p ≤ k = let e = t.1 in omega arith in
          let past : p + n ≤ k = let e = t.1 in omega arith in
          let within : k < p + suc n = let e = t.1 in omega arith in
          ap (λ b. (nat_lt (p + n) bits && b) || rest) t.0
          ∙ ap (λ j. (nat_lt j bits && true) || rest) t.1
          ∙ ap (λ b. (a && true) || b) (span_bounds bits p n k)
          ∙ ap (λ b. (a && true) || (a && (b && nat_lt k (p + n)))) (at_least p k le)
          ∙ ap (λ b. (a && true) || (a && (true && b))) (le-ltb k (p + n) past)
          ∙ hit a
          ∙ sym (ap (λ b. a && (b && nat_lt k (p + suc n))) (at_least p k le) ∙ ap (λ b. a && (true && b)) (lt-ltb k (p + suc n) within))
      | inr f ↦
          ap (λ b. (nat_lt (p + n) bits && b) || rest) f.0
          ∙ ap (λ b. b || rest) (none_right (nat_lt (p + n) bits))
          ∙ span_bounds bits p n k
          ∙ ap (λ b. a && (nat_le p k && b)) (one_more k (p + n) f.1 ∙ ap (nat_lt k) next)
    ]

twice : (a : Bool) → (a && (true && a)) ≡ a
twice true = refl
twice false = refl

-- a bit of a vector
own_bit : (shapes : ℕ → Shape) (g k : ℕ) → (shapes g).words ≡ 0 → is_bit_of (shape_of (shapes g)) g (spot g 0 k) ≡ nat_lt k (shapes g).bits
own_bit shapes g k w =
    ap (λ t. t && (nat_lt 0 (max 1 (shapes g).words) && nat_lt k (shapes g).bits)) (eq-eqb g g refl)
    ∙ ap (λ c. nat_lt 0 (max 1 c) && nat_lt k (shapes g).bits) w

-- all bits of a vector
pub whole_read : (shapes : ℕ → Shape) (g bits m : ℕ) → (shapes g).words ≡ 0 → (shapes g).bits ≡ bits → ((k : ℕ) → is_set m k ≡ in_span bits (pos 0) bits k) → (k : ℕ) → is_set m k ≡ is_bit_of (shape_of (shapes g)) g (spot g 0 k)
whole_read shapes g bits m w e h k =
    let all : (0 + bits) ≡ bits = omega arith in
    h k ∙ span_bounds bits 0 bits k
    ∙ ap (λ t. nat_lt k bits && (t && nat_lt k (0 + bits))) (at_least 0 k (omega arith))
    ∙ ap (λ n. nat_lt k bits && (true && nat_lt k n)) all
    ∙ twice (nat_lt k bits)
    ∙ ap (nat_lt k) (sym e)
    ∙ sym (own_bit shapes g k w)

difference : (a b : ℕ) → b ≤ a → pos a -ℤ pos b ≡ pos (a - b)
difference a b le = omega (arith, ints, le)

-- a part of a vector
pub part_read : (shapes : ℕ → Shape) (g bits low high end m : ℕ) → (shapes g).words ≡ 0 → (shapes g).bits ≡ bits → (shapes g).low ≡ low → low ≤ end → ((k : ℕ) → is_set m k ≡ in_span bits (pos end -ℤ pos low) (high - end + 1) k) → IsReadBy shapes g (made.Part high end) (named.Mask m)
part_read shapes g bits low high end m w e l le h = (
  refl,
  λ k.
      let n = high - end + 1 in
      let lo = (shapes g).low in
      h k ∙ ap (λ z. in_span bits z n k) (difference end low le) ∙ span_bounds bits (end - low) n k
      ∙ ap (λ b. nat_lt k b && (nat_le (end - low) k && nat_lt k (end - low + n))) (sym e)
      ∙ ap (λ x. nat_lt k (shapes g).bits && (nat_le (end - x) k && nat_lt k (end - x + n))) (sym l)
      ∙ ap (λ t. t && (nat_le (end - lo) k && nat_lt k (end - lo + n))) (sym (own_bit shapes g k w)),
)

minus : (z : ℤ) (a b : ℕ) → (z -ℤ pos a) -ℤ pos b ≡ z -ℤ pos (b + a)
minus z a b = omega (arith, ints)

-- n bits from an index on, whose lowest place is given
abbrev ReadsBy : (ℕ → Shape) → ℕ → FlatExpr → ℕ → ℕ → Named → Type 0
ReadsBy shapes g i lowest n named.Varying = is_constant shapes i ≡ false
ReadsBy shapes g i lowest n (named.Mask m) = (is_constant shapes i ≡ true) × ((k : ℕ) → is_set m k ≡ span_read shapes g n lowest (index_at shapes i) (spot g 0 k))

read_by : (shapes : ℕ → Shape) (g below lowest n : ℕ) (i : FlatExpr) (r : Named) → (shapes g).low + below ≡ lowest → NamesBy shapes g i (index (flat_language shapes) i blank no_sites 0 -ℤ pos below) n r → ReadsBy shapes g i lowest n r
read_by shapes g below lowest n i named.Varying e h = h
read_by shapes g below lowest n i (named.Mask m) e h = (
  h.0,
  λ k.
      h.1 k
      ∙ ap (λ z. is_among (range_at (shape_of (shapes g)) g z n) (spot g 0 k))
      (ap (λ z. (z -ℤ pos below) -ℤ pos (shapes g).low) (index_blank shapes i h.0)
      ∙ minus (index_at shapes i) below (shapes g).low
      ∙ ap (λ x. index_at shapes i -ℤ pos x) e),
)

-- what the code computes
pub reads_by : (shapes : ℕ → Shape) (g bits low below lowest n : ℕ) (i : FlatExpr) (to : Index) (r : Named) → (shapes g).bits ≡ bits → (shapes g).low ≡ low → IsIndex shapes i → IsIndexOf shapes i to → IsIndexed bits low below n to r → (shapes g).low + below ≡ lowest → ReadsBy shapes g i lowest n r
reads_by shapes g bits low below lowest n i to r e l I x h f =
    read_by shapes g below lowest n i r f (names_by shapes g bits low below n i to r (index (flat_language shapes) i blank no_sites 0 -ℤ pos below) e l I x h refl)

chosen : (shapes : ℕ → Shape) (g lowest n m : ℕ) (i : FlatExpr) → (is_constant shapes i ≡ true) → ((k : ℕ) → is_set m k ≡ span_read shapes g n lowest (index_at shapes i) (spot g 0 k)) → (k : ℕ) → is_set m k ≡ (if is_constant shapes i then span_read shapes g n lowest (index_at shapes i) (spot g 0 k) else is_bit_of (shape_of (shapes g)) g (spot g 0 k) || reads shapes i (spot g 0 k))
chosen shapes g lowest n m i t h k =
    h k ∙ sym (ap (λ b. if b then span_read shapes g n lowest (index_at shapes i) (spot g 0 k) else is_bit_of (shape_of (shapes g)) g (spot g 0 k) || reads shapes i (spot g 0 k)) t)

pub read_bit : (shapes : ℕ → Shape) (g : ℕ) (s : FlatSelection) (i got : FlatExpr) (r : Named) → s ≡ made.Bit i → got ≡ i → (shapes g).words ≡ 0 → ReadsBy shapes g got (shapes g).low 1 r → IsReadBy shapes g s r
unfolding hidden-the_row-FlatExpr-0 hidden
read_bit shapes g s i got named.Varying is is_i w h = subst (λ x. IsReadBy shapes g x named.Varying) (sym (is ∙ ap made.Bit (sym is_i))) h
read_bit shapes g s i got (named.Mask m) is is_i w h =
    let at = index_at shapes got in
    subst (λ x. IsReadBy shapes g x (named.Mask m)) (sym (is ∙ ap made.Bit (sym is_i))) (
      h.0,
      λ k.
          chosen shapes g (shapes g).low 1 m got h.0 h.1 k
          ∙ ap (λ c. if is_constant shapes got then (if nat_lt 0 c then is_among (word_at (shape_of (shapes g)) g at) (spot g 0 k) else span_read shapes g 1 (shapes g).low at (spot g 0 k)) else is_bit_of (shape_of (shapes g)) g (spot g 0 k) || reads shapes got (spot g 0 k)) (sym w),
    )

pub read_up : (shapes : ℕ → Shape) (g n : ℕ) (s : FlatSelection) (i got : FlatExpr) (r : Named) → s ≡ made.Up i n → got ≡ i → ReadsBy shapes g got (shapes g).low n r → IsReadBy shapes g s r
unfolding hidden-the_row-FlatExpr-0 hidden
read_up shapes g n s i got named.Varying is is_i h = subst (λ x. IsReadBy shapes g x named.Varying) (sym (is ∙ ap (λ j. made.Up j n) (sym is_i))) h
read_up shapes g n s i got (named.Mask m) is is_i h = subst (λ x. IsReadBy shapes g x (named.Mask m)) (sym (is ∙ ap (λ j. made.Up j n) (sym is_i))) (h.0, λ k. chosen shapes g (shapes g).low n m got h.0 h.1 k)

pub read_down : (shapes : ℕ → Shape) (g n : ℕ) (s : FlatSelection) (i got : FlatExpr) (r : Named) → s ≡ made.Down i n → got ≡ i → ReadsBy shapes g got ((shapes g).low + (n - 1)) n r → IsReadBy shapes g s r
unfolding hidden-the_row-FlatExpr-0 hidden
read_down shapes g n s i got named.Varying is is_i h = subst (λ x. IsReadBy shapes g x named.Varying) (sym (is ∙ ap (λ j. made.Down j n) (sym is_i))) h
read_down shapes g n s i got (named.Mask m) is is_i h = subst (λ x. IsReadBy shapes g x (named.Mask m)) (sym (is ∙ ap (λ j. made.Down j n) (sym is_i))) (h.0, λ k. chosen shapes g ((shapes g).low + (n - 1)) n m got h.0 h.1 k)

-- what an index must keep
pub index_bit : (shapes : ℕ → Shape) (s : FlatSelection) (i got : FlatExpr) → s ≡ made.Bit i → got ≡ i → HasIndex shapes s → IsIndex shapes got
unfolding hidden-the_row-FlatExpr-0 hidden
index_bit shapes s i got is is_i h = subst (HasIndex shapes) (is ∙ ap made.Bit (sym is_i)) h

pub index_up : (shapes : ℕ → Shape) (s : FlatSelection) (i got : FlatExpr) (n : ℕ) → s ≡ made.Up i n → got ≡ i → HasIndex shapes s → IsIndex shapes got
unfolding hidden-the_row-FlatExpr-0 hidden
index_up shapes s i got n is is_i h = subst (HasIndex shapes) (is ∙ ap (λ j. made.Up j n) (sym is_i)) h

pub index_down : (shapes : ℕ → Shape) (s : FlatSelection) (i got : FlatExpr) (n : ℕ) → s ≡ made.Down i n → got ≡ i → HasIndex shapes s → IsIndex shapes got
unfolding hidden-the_row-FlatExpr-0 hidden
index_down shapes s i got n is is_i h = subst (HasIndex shapes) (is ∙ ap (λ j. made.Down j n) (sym is_i)) h

-- a select that is the same in every view reads bits of its vector alone
span_chosen : (shapes : ℕ → Shape) (g h k n lowest : ℕ) (i : FlatExpr) → is_constant shapes i ≡ true → eqb g h ≡ false → (if is_constant shapes i then span_read shapes g n lowest (index_at shapes i) (spot h 0 k) else is_bit_of (shape_of (shapes g)) g (spot h 0 k) || reads shapes i (spot h 0 k)) ≡ false
span_chosen shapes g h k n lowest i t e =
    ap (λ b. if b then span_read shapes g n lowest (index_at shapes i) (spot h 0 k) else is_bit_of (shape_of (shapes g)) g (spot h 0 k) || reads shapes i (spot h 0 k)) t
    ∙ range_other (shape_of (shapes g)) g h k (index_at shapes i -ℤ pos lowest) n e

pub select_other : (shapes : ℕ → Shape) (g h k : ℕ) (s : FlatSelection) → (shapes g).words ≡ 0 → is_steady shapes s ≡ true → eqb g h ≡ false → select_reads shapes g s (spot h 0 k) ≡ false
select_other shapes g h k (selection.Part high low) w t e =
    ap (λ b. (b && (nat_lt 0 (max 1 (shapes g).words) && nat_lt k (shapes g).bits)) && (nat_le (low - (shapes g).low) k && nat_lt k (low - (shapes g).low + (high - low + 1)))) e
select_other shapes g h k (selection.Bit' _ (flat.more_of-FlatExpr i _)) w t e =
    let at = index_at shapes i in
    ap (λ c. if is_constant shapes i then (if nat_lt 0 c then is_among (word_at (shape_of (shapes g)) g at) (spot h 0 k) else span_read shapes g 1 (shapes g).low at (spot h 0 k)) else is_bit_of (shape_of (shapes g)) g (spot h 0 k) || reads shapes i (spot h 0 k)) w
    ∙ span_chosen shapes g h k 1 (shapes g).low i t e
select_other shapes g h k (selection.Up' _ (flat.more_of-FlatExpr i _) n) w t e = span_chosen shapes g h k n (shapes g).low i t e
select_other shapes g h k (selection.Down' _ (flat.more_of-FlatExpr i _) n) w t e = span_chosen shapes g h k n ((shapes g).low + (n - 1)) i t e

pub whole_other : (shapes : ℕ → Shape) (g h k : ℕ) → eqb g h ≡ false → is_bit_of (shape_of (shapes g)) g (spot h 0 k) ≡ false
whole_other shapes g h k e = ap (λ b. b && (nat_lt 0 (max 1 (shapes g).words) && nat_lt k (shapes g).bits)) e

pub selected_steady : (shapes : ℕ → Shape) (g : ℕ) (s : FlatSelection) (x : Spot) → is_steady shapes s ≡ true → selected shapes g s x ≡ select_reads shapes g s x
selected_steady shapes g s x t = ap (λ b. if b then select_reads shapes g s x else is_bit_of (shape_of (shapes g)) g x) t

pub selected_varying : (shapes : ℕ → Shape) (g : ℕ) (s : FlatSelection) (x : Spot) → is_steady shapes s ≡ false → selected shapes g s x ≡ is_bit_of (shape_of (shapes g)) g x
selected_varying shapes g s x f = ap (λ b. if b then select_reads shapes g s x else is_bit_of (shape_of (shapes g)) g x) f

-- a number reads nothing
number_reads : (shapes : ℕ → Shape) (e : FlatExpr) (x : Spot) → is_number e ≡ true → reads shapes e x ≡ false
number_reads shapes (flat.Literal n) x t = refl
number_reads shapes (flat.Signal p g) x t = cc
number_reads shapes (flat.Select p g s) x t = cc
number_reads shapes (flat.SelectNumber p c low s) x t = cc
number_reads shapes (flat.Unary' o _ a) x t = cc
number_reads shapes (flat.Binary' _ a o _ b) x t = cc
number_reads shapes (flat.Conditional' _ c _ a _ b) x t = cc
number_reads shapes (flat.Parentheses' p _ (flat.more_of-FlatExpr a _)) x t = number_reads shapes a x t
number_reads shapes (flat.Concatenation' p _ parts) x t = cc
number_reads shapes (flat.Replication' p c _ parts) x t = cc
number_reads shapes (flat.Signed' p _ a) x t = cc
number_reads shapes (flat.Unsigned' p _ a) x t = cc

or_none : (a b : Bool) → b ≡ false → a ≡ (a || b)
or_none true b e = refl
or_none false b e = sym e

-- by a constant index and by another
by_index : (shapes : ℕ → Shape) (i : FlatExpr) (a b : Bool) (x : Spot) → IsIndex shapes i → (if is_constant shapes i then a else b || reads shapes i x) ≡ ((if is_constant shapes i then (if is_constant shapes i then a else b || reads shapes i x) else b) || reads shapes i x)
by_index shapes i a b x I = elim (cases_Bool (is_constant shapes i)) [
  | inl t ↦
      ap (λ c. if c then a else b || reads shapes i x) t
      ∙ or_none a (reads shapes i x) (number_reads shapes i x (sym I ∙ t))
      ∙ sym (ap (λ c. (if c then (if c then a else b || reads shapes i x) else b) || reads shapes i x) t)
  | inr f ↦
      ap (λ c. if c then a else b || reads shapes i x) f
      ∙ sym (ap (λ c. (if c then (if c then a else b || reads shapes i x) else b) || reads shapes i x) f)
]

-- a select reads bits of its vector, and what its index reads
pub select_is : (shapes : ℕ → Shape) (g : ℕ) (s : FlatSelection) (x : Spot) → HasIndex shapes s → select_reads shapes g s x ≡ (selected shapes g s x || index_reads shapes s x)
select_is shapes g (selection.Part high low) x I = or_none (is_part shapes g high low x) false refl
select_is shapes g (selection.Bit' _ (flat.more_of-FlatExpr i _)) x I = by_index shapes i (at_read shapes g (index_at shapes i) x) (is_bit_of (shape_of (shapes g)) g x) x I
select_is shapes g (selection.Up' _ (flat.more_of-FlatExpr i _) n) x I = by_index shapes i (span_read shapes g n (shapes g).low (index_at shapes i) x) (is_bit_of (shape_of (shapes g)) g x) x I
select_is shapes g (selection.Down' _ (flat.more_of-FlatExpr i _) n) x I = by_index shapes i (span_read shapes g n ((shapes g).low + (n - 1)) (index_at shapes i) x) (is_bit_of (shape_of (shapes g)) g x) x I

-- what is taken has what the code asks
module _ (K : ℕ → Type 0) (shapes : ℕ → Shape) where
  pub select_fits : (g : ℕ) (s : FlatSelection) → FitsSelect K (Unit {0}) (Unit {0}) shapes g s → (p : Shape) → shapes g ≡ p → FitsRead p s
  select_fits g (selection.Bit' _ i) f p e = tt
  select_fits g (selection.Part high low) f p e = subst (λ x. FitsRead x (selection.Part high low)) e (f.1, f.2, f.3)
  select_fits g (selection.Up' _ (flat.more_of-FlatExpr i _) n) f p e = f.1
  select_fits g (selection.Down' _ (flat.more_of-FlatExpr i _) n) f p e = f.1

  pub select_index : (g : ℕ) (s : FlatSelection) → FitsSelect K (Unit {0}) (Unit {0}) shapes g s → HasIndex shapes s
  select_index g (selection.Bit' _ (flat.more_of-FlatExpr i _)) f = f.1
  select_index g (selection.Part high low) f = tt
  select_index g (selection.Up' _ (flat.more_of-FlatExpr i _) n) f = f.3
  select_index g (selection.Down' _ (flat.more_of-FlatExpr i _) n) f = f.3
