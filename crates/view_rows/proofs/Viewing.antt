-- The view that a row stands for after a store.
use Rattle.std.proofs.Common.{◌≡◌, ℕ, zero, suc, ◌+◌, ◌-◌, ◌*◌, ◌^◌, ◌<◌, ◌≤◌, List, [], ◌∷◌, length, Bool, true, false, ◌⊎◌, inl, inr, eqb, refl, sym, ap, ◌∙◌, subst, arith}
use Rattle.std.specs.Prelude.{Option, Some, None, max, ◌&&◌, ◌||◌, nat_lt, if◌then◌else◌, slice_index}
use Rattle.std.proofs.Math.ListN.{get_or, set}
use Rattle.std.proofs.lemmas.List.{get_or-set_same, get_or-set_other, get_or-map, map-set, length-set, length-map}
use Rattle.std.proofs.lemmas.Bool.{cases_eq, cases_lt}
use Rattle.std.proofs.lemmas.Bool.Decides.{Decides-ltb, Decides-eqb}
use Rattle.bits_core.specs.Word.{Word, at_zero}
use Rattle.v_views.specs.Spots.{Spot, View, Shape, BitWrite, spot, same_spot, bit_of, is_bit_of, is_among, put, spread, written}
use Rattle.v_views.proofs.Bools.{and_parts, both, not_true, true_or_false}
use Rattle.v_views.proofs.Writing.{spread_at, written_other}
use Rattle.word_eqs.specs.declared.term.TermId.{TermId}
use Rattle.word_eqs.specs.Graph.{Graph, IsGraph, IsTyped, width_in, places}
use Rattle.word_eqs.specs.Meaning.{Values, Respects}
use Rattle.term_steps.specs.Adds.{Adds}
use Rattle.term_steps.proofs.Adding.{value_of, below}
use Rattle.view_rows.specs.declared.stores.Part.{Part}
use Rattle.view_rows.specs.Parts.{changed}
use Rattle.view_rows.specs.Rows.{place_in, view_in, IsRow, bits_from, part_places, FitsPart, IsStored}
use Rattle.view_rows.proofs.Bits.{changed_below, changed_above, changed_in}

neither : (a b : Bool) → a ≡ false → b ≡ false → (a || b) ≡ false
neither true b p q = p
neither false b p q = q

-- the bits of a part
pub bits_length : (g i low n : ℕ) → length (bits_from g i low n) ≡ n
bits_length g i low zero = refl
bits_length g i low (suc n) = ap suc (bits_length g i low n)

same_is : (g i k : ℕ) (x : Spot) → same_spot (spot g i k) x ≡ true → (g ≡ x.signal) × (i ≡ x.word) × (k ≡ x.bit)
same_is g i k x t =
    let a = and_parts (eqb g x.signal) (eqb i x.word && eqb k x.bit) t in
    let b = and_parts (eqb i x.word) (eqb k x.bit) a.1 in ((Decides-eqb g x.signal).0 a.0, (Decides-eqb i x.word).0 b.0, (Decides-eqb k x.bit).0 b.1)

pub among_not : (g i low n : ℕ) (x : Spot) → (x.signal ≡ g → x.word ≡ i → low ≤ x.bit → x.bit < low + n → ⊥) → is_among (bits_from g i low n) x ≡ false
among_not g i low zero x h = refl
among_not g i low (suc n) x h =
    neither (same_spot (spot g i (low + n)) x) (is_among (bits_from g i low n) x)
    (not_true (same_spot (spot g i (low + n)) x) (λ t. let e = same_is g i (low + n) x t in let k = e.2 in h (sym e.0) (sym e.1) (omega (arith, k)) (omega (arith, k))))
    (among_not g i low n x (λ a b c d. h a b c (omega (arith, d))))

-- a bit outside a part stays
pub written_out : (g i low n m : ℕ) (v : View) (x : Spot) → (x.signal ≡ g → x.word ≡ i → low ≤ x.bit → x.bit < low + n → ⊥) → written (spread (bits_from g i low n) m) v x ≡ v x
written_out g i low n m v x h = written_other (spread (bits_from g i low n) m) v x (spread_at (bits_from g i low n) m x ∙ among_not g i low n x h)

-- a bit of a part is the number's
pub written_in : (g i low n m : ℕ) (v : View) (k : ℕ) → low ≤ k → k < low + n → written (spread (bits_from g i low n) m) v (spot g i k) ≡ bit_of m (k - low)
written_in g i low zero m v k le lt = absurd (omega arith)
written_in g i low (suc n) m v k le lt =
    let b : BitWrite = record { spot = spot g i (low + n); value = bit_of m (length (bits_from g i low n)) } in
    elim (cases_eq k (low + n)) [
      | inl e ↦
          let same : same_spot (spot g i (low + n)) (spot g i k) ≡ true = both (eqb g g) (eqb i i && eqb (low + n) k) ((Decides-eqb g g).1 refl) (both (eqb i i) (eqb (low + n) k) ((Decides-eqb i i).1 refl) ((Decides-eqb (low + n) k).1 (sym e))) in
          let z : n ≡ k - low = omega arith in
          written_out g i low n m (put b v) (spot g i k) (λ p q r s. omega (arith, e, s))
          ∙ ap (λ c. if c then b.value else v (spot g i k)) same
          ∙ ap (bit_of m) (bits_length g i low n ∙ z)
      | inr ne ↦ written_in g i low n m (put b v) k le (omega arith)
    ]

at_same : (n : ℕ) (b : Bool) → b ≡ at_zero n b b
at_same zero b = refl
at_same (suc n) b = refl

at_view : (n : ℕ) (f g h : View) → ((x : Spot) → f x ≡ at_zero n (g x) (h x)) → f ≡ at_zero n g h
at_view zero f g h e = λ i x. e x i
at_view (suc n) f g h e = λ i x. e x i

-- a row with one term changed
pub place_same : (starts : List ℕ) (words : List TermId) (g i : ℕ) (t : TermId) → slice_index starts g + i < length words → place_in starts (set words (slice_index starts g + i) t) g i ≡ t.0
place_same starts words g i t lt =
    let at = slice_index starts g + i in
    let inside : at < length (places words) = subst (λ n. at < n) (sym (length-map words (λ (t : TermId). t.0))) lt in
    ap (λ l. slice_index l at) (map-set (λ (t : TermId). t.0) words at t) ∙ get_or-set_same (places words) at t.0 0 inside

pub place_other : (words : List TermId) (at j : ℕ) (t : TermId) → (j ≡ at → ⊥) → slice_index (places (set words at t)) j ≡ slice_index (places words) j
place_other words at j t ne = ap (λ l. slice_index l j) (map-set (λ (t : TermId). t.0) words at t) ∙ get_or-set_other (places words) at j t.0 0 ne

-- a bit that there is
known_bit : (s : Shape) (j i k : ℕ) → is_bit_of s j (spot j i k) ≡ true → (i < max 1 s.words) × (k < s.bits)
known_bit s j i k t =
    let a = and_parts (eqb j j) (nat_lt i (max 1 s.words) && nat_lt k s.bits) t in
    let b = and_parts (nat_lt i (max 1 s.words)) (nat_lt k s.bits) a.1 in ((Decides-ltb i (max 1 s.words)).0 b.0, (Decides-ltb k s.bits).0 b.1)

is_known : (s : Shape) (j i k : ℕ) → i < max 1 s.words → k < s.bits → is_bit_of s j (spot j i k) ≡ true
is_known s j i k p q = both (eqb j j) (nat_lt i (max 1 s.words) && nat_lt k s.bits) ((Decides-eqb j j).1 refl) (both (nat_lt i (max 1 s.words)) (nat_lt k s.bits) ((Decides-ltb i (max 1 s.words)).1 p) ((Decides-ltb k s.bits).1 q))

module _ (count : ℕ) (shape : ℕ → Shape) (starts : List ℕ) (before : List TermId) (g : Graph) (row : IsRow count shape starts before g) where
  -- a signal that has a bit is there
  there_is : (j k : ℕ) → k < (shape j).bits → j < count
  there_is j k lt = elim (cases_lt j count) [ inl l ↦ l | inr ge ↦ let z = row.none j ge in absurd (omega (arith, lt, z)) ]

  -- two words of a row have two places
  two_places : (j i g w : ℕ) → j < count → g < count → i < max 1 (shape j).words → w < max 1 (shape g).words → (j ≡ g → i ≡ w → ⊥) → slice_index starts j + i ≡ slice_index starts g + w → ⊥
  two_places j i g w jl gl il wl ne e = elim (cases_eq j g) [
    | inl s ↦ let f = ap (slice_index starts) s in ne s (omega (arith, e, f))
    | inr d ↦ elim (cases_lt j g) [
      | inl l ↦ let a = row.apart j g l gl in absurd (omega (arith, a, il, e))
      | inr ge ↦ let l : g < j = omega (arith, d, ge) in let a = row.apart g j l jl in absurd (omega (arith, a, wl, e))
    ]
  ]

  module _ (h : Graph) (p : Part) (fits : FitsPart count shape p) (value guard t : ℕ) (proper : IsGraph h) (there : value < length g.terms) (wide : width_in g value ≡ p.high - p.low + 1)
      (adds : Adds g h (width_in g (place_in starts before p.signal p.word)) (λ v. changed (width_in g (place_in starts before p.signal p.word)) p.high p.low (v.term guard).value (v.term (place_in starts before p.signal p.word)).value (v.term value).value) (3 * (p.high - p.low + 1)) 6 t) where
    abbrev at : ℕ
    at = slice_index starts p.signal + p.word

    abbrev old : ℕ
    old = place_in starts before p.signal p.word

    abbrev after : List TermId
    after = set before at (record { 0 = t })

    inside : at < length before
    inside = let a = row.inside p.signal fits.signal in let b = fits.word in omega (arith, a, b)

    same_place : place_in starts after p.signal p.word ≡ t
    same_place = place_same starts before p.signal p.word (record { 0 = t }) inside

    other_place : (j i : ℕ) → j < count → i < max 1 (shape j).words → (j ≡ p.signal → i ≡ p.word → ⊥) → place_in starts after j i ≡ place_in starts before j i
    other_place j i jl il ne = place_other before at (slice_index starts j + i) (record { 0 = t }) (two_places j i p.signal p.word jl fits.signal il fits.word ne)

    bits : width_in g old ≡ (shape p.signal).bits
    bits = row.width p.signal p.word fits.signal fits.word

    module _ (v : Values) (r : Respects v h) where
      abbrev view : View
      view = view_in shape starts before v

      abbrev then_written : View
      then_written = written (spread (part_places p) (v.term value).value) view

      abbrev gives : Spot → Type 0
      gives x = view_in shape starts after v x ≡ at_zero (v.term guard).value (view x) (then_written x)

      small : (v.term value).value < 2 ^ (p.high - p.low + 1)
      small = subst (λ n. (v.term value).value < 2 ^ n) wide (below g h _ t v value proper adds.typed r there)

      -- a bit of the word that is changed
      word_bit : (k : ℕ) → k < (shape p.signal).bits → gives (spot p.signal p.word k)
      word_bit k lt =
          let known = is_known (shape p.signal) p.signal p.word k fits.word lt in
          let w = width_in g old in
          let a = (v.term old).value in
          let m = (v.term value).value in
          let n = (v.term guard).value in
          let order = fits.order in
          let high = fits.high in
          let now : view_in shape starts after v (spot p.signal p.word k) ≡ bit_of (changed w p.high p.low n a m) k =
          ap (λ b. b && bit_of (v.term (place_in starts after p.signal p.word)).value k) known
          ∙ ap (λ z. bit_of (v.term z).value k) same_place
          ∙ ap (λ z. bit_of z k) (value_of g h _ _ 6 t _ adds v r) in
          let before_is : view (spot p.signal p.word k) ≡ bit_of a k = ap (λ b. b && bit_of a k) known in
          let kept : then_written (spot p.signal p.word k) ≡ view (spot p.signal p.word k) → bit_of (changed w p.high p.low n a m) k ≡ bit_of a k → gives (spot p.signal p.word k) =
          λ o c. now ∙ c ∙ at_same n (bit_of a k) ∙ ap (λ b. at_zero n b (bit_of a k)) (sym before_is) ∙ ap (at_zero n (view (spot p.signal p.word k))) (sym (o ∙ before_is)) in
          elim (cases_lt k p.low) [
            | inl under ↦
                kept (written_out p.signal p.word p.low (p.high - p.low + 1) m view (spot p.signal p.word k) (λ a b c d. omega (arith, c, under)))
                (changed_below w p.high p.low n a m k under)
            | inr from ↦ elim (cases_lt p.high k) [
              | inl past ↦
                  kept (written_out p.signal p.word p.low (p.high - p.low + 1) m view (spot p.signal p.word k) (λ a b c d. omega (arith, d, past, order)))
                  (changed_above w p.high p.low n a m k order small past (omega (arith, lt, bits)))
              | inr to ↦
                  now
                  ∙ changed_in w p.high p.low n a m k from to
                  ∙ ap (λ b. at_zero n b (bit_of m (k - p.low))) (sym before_is)
                  ∙ ap (at_zero n (view (spot p.signal p.word k))) (sym (written_in p.signal p.word p.low (p.high - p.low + 1) m view k from (omega (arith, to, order))))
            ]
          ]

      -- a bit of another word
      other_bit : (j i k : ℕ) → j < count → i < max 1 (shape j).words → (j ≡ p.signal → i ≡ p.word → ⊥) → gives (spot j i k)
      other_bit j i k jl il ne =
          let m = (v.term value).value in
          let n = (v.term guard).value in
          ap (λ z. is_bit_of (shape j) j (spot j i k) && bit_of (v.term z).value k) (other_place j i jl il ne)
          ∙ at_same n (view (spot j i k))
          ∙ ap (at_zero n (view (spot j i k))) (sym (written_out p.signal p.word p.low (p.high - p.low + 1) m view (spot j i k) (λ a b c d. ne a b)))

      -- a bit that there isn't
      no_bit : (j i k : ℕ) → is_bit_of (shape j) j (spot j i k) ≡ false → gives (spot j i k)
      no_bit j i k f =
          let m = (v.term value).value in
          let n = (v.term guard).value in
          let none : view (spot j i k) ≡ false = ap (λ b. b && bit_of (v.term (place_in starts before j i)).value k) f in
          let out : then_written (spot j i k) ≡ view (spot j i k) =
          written_out p.signal p.word p.low (p.high - p.low + 1) m view (spot j i k)
          (λ a b c d.
          let high = fits.high in
          let order = fits.order in
          let lt : k < (shape p.signal).bits = omega (arith, high, order, d) in
          let there : is_bit_of (shape j) j (spot j i k) ≡ true = is_known (shape j) j i k (subst (λ i. i < max 1 (shape j).words) (sym b) (subst (λ j. p.word < max 1 (shape j).words) (sym a) fits.word)) (subst (λ j. k < (shape j).bits) (sym a) lt) in
          absurd (clash (sym there ∙ f))) in
          ap (λ b. b && bit_of (v.term (place_in starts after j i)).value k) f
          ∙ sym none
          ∙ at_same n (view (spot j i k))
          ∙ ap (at_zero n (view (spot j i k))) (sym out)
        where
          clash : true ≡ false → ⊥
          clash e = cc

      each_bit : (x : Spot) → gives x
      each_bit x = elim (true_or_false (is_bit_of (shape x.signal) x.signal x)) [
        | inl b ↦
            let known = known_bit (shape x.signal) x.signal x.word x.bit b in
            let jl = there_is x.signal x.bit known.1 in
            elim (cases_eq x.signal p.signal) [
              | inl s ↦ elim (cases_eq x.word p.word) [
                | inl w ↦
                    let path : spot p.signal p.word x.bit ≡ x = λ i. record { signal = sym s i; word = sym w i; bit = x.bit } in
                    subst gives path (word_bit x.bit (subst (λ j. x.bit < (shape j).bits) s known.1))
                | inr ne ↦ other_bit x.signal x.word x.bit jl known.0 (λ a b. ne b)
              ]
              | inr ne ↦ other_bit x.signal x.word x.bit jl known.0 (λ a b. ne a)
            ]
        | inr b ↦ no_bit x.signal x.word x.bit b
      ]

      viewed : view_in shape starts after v ≡ at_zero (v.term guard).value view then_written
      viewed = at_view (v.term guard).value (view_in shape starts after v) view then_written each_bit

    place_there : (j i : ℕ) → j < count → i < max 1 (shape j).words → (place_in starts after j i < length h.terms) × (width_in h (place_in starts after j i) ≡ (shape j).bits)
    place_there j i jl il =
        let ty = adds.typed in
        let longer = ty.longer in
        let lt = row.there j i jl il in
        let kept : (j ≡ p.signal → i ≡ p.word → ⊥) → (place_in starts after j i < length h.terms) × (width_in h (place_in starts after j i) ≡ (shape j).bits) =
        λ ne.
        let e = other_place j i jl il ne in (subst (λ z. z < length h.terms) (sym e) (omega (arith, lt, longer)), ap (width_in h) e ∙ ty.kept (place_in starts before j i) lt ∙ row.width j i jl il) in
        elim (cases_eq j p.signal) [
          | inl s ↦ elim (cases_eq i p.word) [
            | inl w ↦
                let e : place_in starts after j i ≡ t = ap (λ j. place_in starts after j i) s ∙ ap (place_in starts after p.signal) w ∙ same_place in (
                  subst (λ z. z < length h.terms) (sym e) ty.there,
                  ap (width_in h) e ∙ ty.width ∙ bits ∙ sym (ap (λ j. (shape j).bits) s),
                )
            | inr ne ↦ kept (λ a b. ne b)
          ]
          | inr ne ↦ kept (λ a b. ne a)
        ]

    stored : IsStored count shape starts before after p value guard g h
    stored = record {
      grown = adds.grown;
      view = λ v r. viewed v r;
      row = record {
        size = row.size;
        inside = λ k lt. subst (λ n. slice_index starts k + max 1 (shape k).words ≤ n) (sym (length-set before at (record { 0 = t }))) (row.inside k lt);
        apart = row.apart;
        there = λ k i p q. (place_there k i p q).0;
        width = λ k i p q. (place_there k i p q).1;
        none = row.none;
      };
      size = length-set before at (record { 0 = t });
      longer = let a = adds.typed in a.longer;
      kept = let a = adds.typed in a.kept;
      vars = adds.vars;
      cost = adds.cost;
      terms = adds.count;
    }

-- the same where the term is looked up by itself
pub stored_at : (count : ℕ) (shape : ℕ → Shape) (starts : List ℕ) (before : List TermId) (g : Graph) (row : IsRow count shape starts before g) (h : Graph) (p : Part) (fits : FitsPart count shape p) (value guard t : ℕ) (old : TermId) → IsGraph h → value < length g.terms → width_in g value ≡ p.high - p.low + 1 → old ≡ get_or before (slice_index starts p.signal + p.word) (record { 0 = 0 }) → slice_index starts p.signal + p.word < length before →
    Adds g h (width_in g old.0) (λ v. changed (width_in g old.0) p.high p.low (v.term guard).value (v.term old.0).value (v.term value).value) (3 * (p.high - p.low + 1)) 6 t → IsStored count shape starts before (set before (slice_index starts p.signal + p.word) (record { 0 = t })) p value guard g h
stored_at count shape starts before g row h p fits value guard t old proper there wide is inside adds =
    let e : old.0 ≡ place_in starts before p.signal p.word = ap (λ (t : TermId). t.0) is ∙ sym (get_or-map (λ (t : TermId). t.0) before (slice_index starts p.signal + p.word) (record { 0 = 0 }) 0 inside) in
    stored count shape starts before g row h p fits value guard t proper there wide
    (subst (λ o. Adds g h (width_in g o) (λ v. changed (width_in g o) p.high p.low (v.term guard).value (v.term o).value (v.term value).value) (3 * (p.high - p.low + 1)) 6 t) e adds)
