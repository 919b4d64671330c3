-- The value of a flat expression depends on the bits that it reads.
use Rattle.std.proofs.Common.{◌≡◌, ℕ, suc, zero, ◌+◌, ◌-◌, ◌*◌, ◌/◌, ◌%◌, ◌^◌, ◌<◌, ◌≤◌, List, [], ◌∷◌, ◌++◌, length, Bool, true, false, inl, inr, eqb, refl, sym, ap, ◌∙◌, arith}
use Rattle.std.specs.Prelude.{Option, Some, None, max, ◌||◌, nat_lt, nat_le, if◌then◌else◌, ℤ, pos, negsuc, ◌-ℤ◌, ◌+ℤ◌}
use Rattle.std.specs.Int.{bit_at}
use Rattle.std.proofs.lemmas.Bool.Decides.{Decides-ltb, Decides-eqb}
use Rattle.std.proofs.lemmas.Bool.{cases_Bool, cases_lt, cases_eq}
use Rattle.std.proofs.lemmas.Bool.Decides.{nat_tests}
use Rattle.bits_core.specs.Word.{Word}
use Rattle.src_text.specs.declared.refusal.Place.{Place}
use Rattle.v_views.specs.Language.{Language}
use Rattle.v_views.specs.Spots.{same_spot, is_among, place_at, range_at, bits_at, nowhere, word_at, Spot, View, spot, is_bit_of, bit_of}
use Rattle.v_views.proofs.Bools.{both, or_left, or_right}
use Rattle.flat_tree.specs.Selects.{bit_read, bits_read, word_read, are_inside, is_word}
use Rattle.flat_tree.specs.Values.{Shape, World, Meant, own_sites, site_number, numbers_of, site_at, standing, index_of, is_sure, indexed, bits_by, word_by, by_index, part_of, meant, select_meant, number_meant, parts_meant, sites_of, is_fixed, value_in, length_of, is_signed}
use Rattle.flat_tree.specs.declared.expr.FlatExpr.{FlatExpr}
use Rattle.flat_tree.specs.declared.expr.FlatExpr as flat
use Rattle.flat_tree.specs.declared.expr.FlatSelection.{FlatSelection}
use Rattle.flat_tree.specs.declared.expr.FlatSelection as selection
use Rattle.flat_laws.proofs.Same.{Same, standing_same, binary_same, unary_same, conditional_same, replicated_same, cast_same, beside_same, indexed_same}
use Rattle.flat_laws.proofs.Steady.{steady, index_steady}
use Rattle.flat_language.proofs.Numbers.{bit_div, number_local, bit_number, bit_past, slice_number}
use Rattle.flat_language.specs.Reads.{index_at, is_constant, span_read, at_read, shape_of, world, is_part, reads, select_reads, index_reads, parts_read}

at_least : (a b : ℕ) → a ≤ b → nat_le a b ≡ true
at_least a b le = grind (arith, nat_tests)

-- in a view and another that are alike on what is read
module _ (shapes : ℕ → Shape) (v w : View) (u : ℕ → ℕ) where
  abbrev x : World
  x = world shapes v u

  abbrev y : World
  y = world shapes w u

  abbrev Alike : (Spot → Bool) → Type 0
  Alike f = (s : Spot) → f s ≡ true → v s ≡ w s

  abbrev AreSame : Meant → Type 0
  AreSame m = Same x y (λ k. refl) m

  is_bit : (g i k : ℕ) → i < max 1 (shapes g).words → k < (shapes g).bits → is_bit_of (shape_of (shapes g)) g (spot g i k) ≡ true
  is_bit g i k hi hk =
      both (eqb g g) _ ((Decides-eqb g g).1 refl) (both (nat_lt i (max 1 (shapes g).words)) (nat_lt k (shapes g).bits) ((Decides-ltb i (max 1 (shapes g).words)).1 hi) ((Decides-ltb k (shapes g).bits).1 hk))

  -- a word of a signal that is read whole
  word_same : (g i : ℕ) → i < max 1 (shapes g).words → Alike (is_bit_of (shape_of (shapes g)) g) → x.word g i ≡ y.word g i
  word_same g i hi h = number_local (shapes g).bits (λ k. v (spot g i k)) (λ k. w (spot g i k)) (λ k lt. h (spot g i k) (is_bit g i k hi lt))

  -- a select of a name of which all bits are read
  span_same : (place : Place) (g n lowest : ℕ) (i : Meant) → Alike (is_bit_of (shape_of (shapes g)) g) → AreSame i → AreSame (bits_by place n (shapes g).bits lowest false (λ z. z.word g 0) i)
  span_same place g n lowest i h p =
      indexed_same x y (λ k. refl) (is_sure (λ at. are_inside n (shapes g).bits (at -ℤ pos lowest)) i) place n false false i
      (λ z at site. bits_read n (shapes g).bits (z.word g 0) site (at -ℤ pos lowest)) p
      (λ at site. ap (λ word. bits_read n (shapes g).bits word site (at -ℤ pos lowest)) (word_same g 0 (omega arith) h))

  index_same : (place : Place) (g : ℕ) (i : Meant) → Alike (is_bit_of (shape_of (shapes g)) g) → AreSame i → AreSame (by_index place (shapes g) g i)
  index_same place g i h p = pick (nat_lt 0 (shapes g).words)
    where
      by_word : (at : ℤ) (site : ℕ) → word_read (x.word g) (shapes g).words site at ≡ word_read (y.word g) (shapes g).words site at
      by_word (pos j) n = elim (cases_Bool (nat_lt j (shapes g).words)) [
        | inl t ↦
            let lt : j < (shapes g).words = (Decides-ltb j (shapes g).words).0 t in
            ap (λ m. if nat_lt j (shapes g).words then m else n) (word_same g j (omega arith) h)
        | inr f ↦ ap (λ c. if c then x.word g j else n) f ∙ sym (ap (λ c. if c then y.word g j else n) f)
      ]
      by_word (negsuc j) n = refl

      pick : (c : Bool) → AreSame (if c then word_by place (shapes g) g i else bits_by place 1 (shapes g).bits (shapes g).low false (λ z. z.word g 0) i)
      pick true = indexed_same x y (λ k. refl) (is_sure (is_word (shapes g).words) i) place (shapes g).bits (shapes g).signed false i (λ z at site. word_read (z.word g) (shapes g).words site at) p by_word
      pick false = span_same place g 1 (shapes g).low i h p

  number_same : (place : Place) (n width lowest word : ℕ) (i : Meant) → AreSame i → AreSame (bits_by place n width lowest true (λ z. word) i)
  number_same place n width lowest word i p =
      indexed_same x y (λ k. refl) (is_sure (λ at. are_inside n width (at -ℤ pos lowest)) i) place n false true i (λ z at site. bits_read n width word site (at -ℤ pos lowest)) p (λ at site. refl)

  part_same : (g high low : ℕ) → Alike (is_part shapes g high low) → AreSame (standing (high - low + 1) false [] false (λ z k. part_of (z.word g 0) high low (shapes g).low))
  part_same g high low h =
      let from = low - (shapes g).low in
      let width = high - low + 1 in
      standing_same x y (λ k. refl) width false [] false (λ z k. z.word g 0 / 2 ^ from % 2 ^ width)
      (λ k. sym (slice_number from width (x.word g 0)) ∙ number_local width _ _ (λ j lt. by_bit (from + j) (omega arith) (omega (arith, lt))) ∙ slice_number from width (y.word g 0))
    where
      by_bit : (j : ℕ) → low - (shapes g).low ≤ j → j < low - (shapes g).low + (high - low + 1) → bit_of (x.word g 0) j ≡ bit_of (y.word g 0) j
      by_bit j le lt = elim (cases_lt j (shapes g).bits) [
        | inl inside ↦
            bit_number (shapes g).bits (λ k. v (spot g 0 k)) j inside
            ∙ h (spot g 0 j) (both _ _ (is_bit g 0 j (omega arith) inside) (both (nat_le (low - (shapes g).low) j) (nat_lt j (low - (shapes g).low + (high - low + 1))) (at_least (low - (shapes g).low) j le) ((Decides-ltb j (low - (shapes g).low + (high - low + 1))).1 lt)))
            ∙ sym (bit_number (shapes g).bits (λ k. w (spot g 0 k)) j inside)
        | inr past ↦ bit_past (shapes g).bits (λ k. v (spot g 0 k)) j past ∙ sym (bit_past (shapes g).bits (λ k. w (spot g 0 k)) j past)
      ]

  whole_same : (g : ℕ) → Alike (is_bit_of (shape_of (shapes g)) g) → AreSame (standing (shapes g).bits (shapes g).signed [] false (λ z k. z.word g 0))
  whole_same g h = standing_same x y (λ k. refl) (shapes g).bits (shapes g).signed [] false (λ z k. z.word g 0) (λ k. word_same g 0 (omega arith) h)

  left : (f g : Spot → Bool) → Alike (λ s. f s || g s) → Alike f
  left f g h s r = h s (or_left (f s) (g s) r)

  right : (f g : Spot → Bool) → Alike (λ s. f s || g s) → Alike g
  right f g h s r = h s (or_right (f s) (g s) r)

  -- where the index is constant, and where it isn't
  taken : (b : Bool) (f g : Spot → Bool) → b ≡ true → Alike (λ s. if b then f s else g s) → Alike f
  taken b f g t h s r = h s (ap (λ b. if b then f s else g s) t ∙ r)

  passed : (b : Bool) (f g : Spot → Bool) → b ≡ false → Alike (λ s. if b then f s else g s) → Alike g
  passed b f g t h s r = h s (ap (λ b. if b then f s else g s) t ∙ r)

  among_same : (g k : ℕ) (to : List (Option Spot)) → is_among (Some (spot g 0 k) ∷ to) (spot g 0 k) ≡ true
  among_same g k to = or_left (same_spot (spot g 0 k) (spot g 0 k)) (is_among to (spot g 0 k)) (both (eqb g g) _ ((Decides-eqb g g).1 refl) ((Decides-eqb k k).1 refl))

  one_bit : (site g : ℕ) (at : ℤ) (j : ℕ) (to : List (Option Spot)) → Alike (is_among (place_at (shape_of (shapes g)) g at ∷ to)) → bit_read (shapes g).bits (x.word g 0) site j at ≡ bit_read (shapes g).bits (y.word g 0) site j at
  one_bit site g (pos k) j to h = elim (cases_Bool (nat_lt k (shapes g).bits)) [
    | inl t ↦
        let lt : k < (shapes g).bits = (Decides-ltb k (shapes g).bits).0 t in
        let e : v (spot g 0 k) ≡ w (spot g 0 k) = h (spot g 0 k) (ap (λ b. is_among ((if b then Some (spot g 0 k) else None) ∷ to) (spot g 0 k)) t ∙ among_same g k to) in
        ap (λ m. if nat_lt k (shapes g).bits then m else bit_at site j)
        (bit_div (shapes g).bits (λ k. v (spot g 0 k)) k lt ∙ ap (λ b. if b then 1 else 0) e ∙ sym (bit_div (shapes g).bits (λ k. w (spot g 0 k)) k lt))
    | inr f ↦ ap (λ b. if b then bit_at (x.word g 0) k else bit_at site j) f ∙ sym (ap (λ b. if b then bit_at (y.word g 0) k else bit_at site j) f)
  ]
  one_bit site g (negsuc k) j to h = refl

  rest_alike : (p : Option Spot) (to : List (Option Spot)) → Alike (is_among (p ∷ to)) → Alike (is_among to)
  rest_alike (Some z) to h s r = h s (or_right (same_spot z s) (is_among to s) r)
  rest_alike None to h s r = h s r

  range_same : (site g : ℕ) (from : ℤ) (n : ℕ) → Alike (is_among (range_at (shape_of (shapes g)) g from n)) → bits_read n (shapes g).bits (x.word g 0) site from ≡ bits_read n (shapes g).bits (y.word g 0) site from
  range_same site g from zero h = refl
  range_same site g from (suc n) h =
      let place = place_at (shape_of (shapes g)) g (from +ℤ pos n) in
      let to = range_at (shape_of (shapes g)) g from n in
      ap (λ m. m + bit_read (shapes g).bits (x.word g 0) site n (from +ℤ pos n) * 2 ^ n) (range_same site g from n (rest_alike place to h))
      ∙ ap (λ m. bits_read n (shapes g).bits (y.word g 0) site from + m * 2 ^ n) (one_bit site g (from +ℤ pos n) n to h)

  -- a select whose index has one value
  fixed_same : (b : Bool) (place : Place) (n : ℕ) (signed : Bool) (m : Meant) (at : ℤ) (read : World → ℤ → ℕ → ℕ) → ((z : World) (k : ℕ) → index_of m z k ≡ at) → ((site : ℕ) → read x at site ≡ read y at site) → AreSame (indexed b place n signed false m read)
  fixed_same true place n signed m at read e h =
      standing_same x y (λ k. refl) n signed (own_sites m) false (λ z k. read z (index_of m z k) 0)
      (λ k. ap (λ at. read x at 0) (e x k) ∙ h 0 ∙ sym (ap (λ at. read y at 0) (e y k)))
  fixed_same false place n signed m at read e h =
      standing_same x y (λ k. refl) n signed (site_at place n ++ own_sites m) false (λ z k. read z (index_of m z (k + numbers_of n)) (site_number z.unknown n k))
      (λ k. ap (λ at. read x at (site_number u n k)) (e x (k + numbers_of n)) ∙ h (site_number u n k) ∙ sym (ap (λ at. read y at (site_number u n k)) (e y (k + numbers_of n))))

  span_sure : (place : Place) (g n lowest : ℕ) (m : Meant) (at : ℤ) → ((z : World) (k : ℕ) → index_of m z k ≡ at) → Alike (span_read shapes g n lowest at) → AreSame (bits_by place n (shapes g).bits lowest false (λ z. z.word g 0) m)
  span_sure place g n lowest m at e h =
      fixed_same (is_sure (λ at. are_inside n (shapes g).bits (at -ℤ pos lowest)) m) place n false m at (λ z at site. bits_read n (shapes g).bits (z.word g 0) site (at -ℤ pos lowest)) e
      (λ site. range_same site g (at -ℤ pos lowest) n h)

  at_sure : (place : Place) (g : ℕ) (m : Meant) (at : ℤ) → ((z : World) (k : ℕ) → index_of m z k ≡ at) → Alike (at_read shapes g at) → AreSame (by_index place (shapes g) g m)
  at_sure place g m at e h = pick (nat_lt 0 (shapes g).words) h
    where
      bits_among : (i n k : ℕ) → k < n → is_among (bits_at g i n) (spot g i k) ≡ true
      bits_among i zero k lt = absurd (omega arith)
      bits_among i (suc n) k lt = elim (cases_eq k n) [
        | inl e ↦ or_left (same_spot (spot g i n) (spot g i k)) (is_among (bits_at g i n) (spot g i k)) (both (eqb g g) _ ((Decides-eqb g g).1 refl) (both (eqb i i) (eqb n k) ((Decides-eqb i i).1 refl) ((Decides-eqb n k).1 (sym e))))
        | inr ne ↦ or_right (same_spot (spot g i n) (spot g i k)) (is_among (bits_at g i n) (spot g i k)) (bits_among i n k (omega arith))
      ]

      word_sure : (site : ℕ) (at : ℤ) → Alike (is_among (word_at (shape_of (shapes g)) g at)) → word_read (x.word g) (shapes g).words site at ≡ word_read (y.word g) (shapes g).words site at
      word_sure n (pos i) h = elim (cases_Bool (nat_lt i (shapes g).words)) [
        | inl t ↦
            let h' : Alike (is_among (bits_at g i (shapes g).bits)) = λ s r. h s (ap (λ b. is_among (if b then bits_at g i (shapes g).bits else nowhere (shapes g).bits) s) t ∙ r) in
            ap (λ m. if nat_lt i (shapes g).words then m else n)
            (number_local (shapes g).bits (λ k. v (spot g i k)) (λ k. w (spot g i k)) (λ k lt. h' (spot g i k) (bits_among i (shapes g).bits k lt)))
        | inr f ↦ ap (λ c. if c then x.word g i else n) f ∙ sym (ap (λ c. if c then y.word g i else n) f)
      ]
      word_sure n (negsuc i) h = refl

      pick : (c : Bool) → Alike (λ s. if c then is_among (word_at (shape_of (shapes g)) g at) s else span_read shapes g 1 (shapes g).low at s) → AreSame (if c then word_by place (shapes g) g m else bits_by place 1 (shapes g).bits (shapes g).low false (λ z. z.word g 0) m)
      pick true h = fixed_same (is_sure (is_word (shapes g).words) m) place (shapes g).bits (shapes g).signed m at (λ z at site. word_read (z.word g) (shapes g).words site at) e (λ n. word_sure n at h)
      pick false h = span_sure place g 1 (shapes g).low m at e h

  -- the law of a constant index
  one_value : (i : FlatExpr) → is_constant shapes i ≡ true → (z : World) (k : ℕ) → index_of (meant shapes i) z k ≡ index_at shapes i
  one_value i t z k = index_steady (meant shapes i) (steady shapes i) t z _ k 0

  by_same : (place : Place) (g n lowest : ℕ) (i : FlatExpr) → (Alike (reads shapes i) → AreSame (meant shapes i)) → Alike (λ s. if is_constant shapes i then span_read shapes g n lowest (index_at shapes i) s else is_bit_of (shape_of (shapes g)) g s || reads shapes i s) → AreSame (bits_by place n (shapes g).bits lowest false (λ z. z.word g 0) (meant shapes i))
  by_same place g n lowest i known h =
      let m = meant shapes i in
      elim (cases_Bool (is_constant shapes i)) [
        | inl t ↦ span_sure place g n lowest m (index_at shapes i) (one_value i t) (taken (is_constant shapes i) _ _ t h)
        | inr f ↦
            let h' = passed (is_constant shapes i) (span_read shapes g n lowest (index_at shapes i)) (λ s. is_bit_of (shape_of (shapes g)) g s || reads shapes i s) f h in
            span_same place g n lowest m (left (is_bit_of (shape_of (shapes g)) g) (reads shapes i) h') (known (right (is_bit_of (shape_of (shapes g)) g) (reads shapes i) h'))
      ]

  mutual
    -- the value depends on the bits that are read
    pub value_same : (e : FlatExpr) → Alike (reads shapes e) → AreSame (meant shapes e)
    value_same (flat.Literal n) h = standing_same x y (λ k. refl) n.word.width n.signed [] true (λ z k. n.word.value) (λ k. refl)
    value_same (flat.Signal place g) h = whole_same g h
    value_same (flat.Select place g s) h = select_same place g s h
    value_same (flat.SelectNumber place c low s) h = number_is_same place c low s h
    value_same (flat.Unary' operator _ (flat.more_of-FlatExpr a _)) h = unary_same x y (λ k. refl) operator.op (meant shapes a) (value_same a h)
    value_same (flat.Binary' _ (flat.more_of-FlatExpr a _) operator _ (flat.more_of-FlatExpr b _)) h =
        binary_same x y (λ k. refl) operator.place operator.op (meant shapes a) (meant shapes b) (value_same a (left (reads shapes a) (reads shapes b) h)) (value_same b (right (reads shapes a) (reads shapes b) h))
    value_same (flat.Conditional' _ (flat.more_of-FlatExpr c _) _ (flat.more_of-FlatExpr a _) _ (flat.more_of-FlatExpr b _)) h =
        let both = right (reads shapes c) (λ s. reads shapes a s || reads shapes b s) h in
        conditional_same x y (λ k. refl) (meant shapes c) (meant shapes a) (meant shapes b)
        (value_same c (left (reads shapes c) (λ s. reads shapes a s || reads shapes b s) h))
        (value_same a (left (reads shapes a) (reads shapes b) both)) (value_same b (right (reads shapes a) (reads shapes b) both))
    value_same (flat.Parentheses' place _ (flat.more_of-FlatExpr a _)) h = value_same a h
    value_same (flat.Concatenation' place _ parts) h = parts_same parts h
    value_same (flat.Replication' place c _ parts) h = replicated_same x y (λ k. refl) c (parts_meant shapes parts) (parts_same parts h)
    value_same (flat.Signed' place _ (flat.more_of-FlatExpr a _)) h = cast_same x y (λ k. refl) true (meant shapes a) (value_same a h)
    value_same (flat.Unsigned' place _ (flat.more_of-FlatExpr a _)) h = cast_same x y (λ k. refl) false (meant shapes a) (value_same a h)

    select_same : (place : Place) (g : ℕ) (s : FlatSelection) → Alike (select_reads shapes g s) → AreSame (select_meant shapes place g s)
    select_same place g (selection.Part high low) h = part_same g high low h
    select_same place g (selection.Bit' _ (flat.more_of-FlatExpr i _)) h =
        let m = meant shapes i in
        elim (cases_Bool (is_constant shapes i)) [
          | inl t ↦ at_sure place g m (index_at shapes i) (one_value i t) (taken (is_constant shapes i) _ _ t h)
          | inr f ↦
              let h' = passed (is_constant shapes i) (at_read shapes g (index_at shapes i)) (λ s. is_bit_of (shape_of (shapes g)) g s || reads shapes i s) f h in
              index_same place g m (left (is_bit_of (shape_of (shapes g)) g) (reads shapes i) h') (value_same i (right (is_bit_of (shape_of (shapes g)) g) (reads shapes i) h'))
        ]
    select_same place g (selection.Up' _ (flat.more_of-FlatExpr i _) n) h = by_same place g n (shapes g).low i (value_same i) h
    select_same place g (selection.Down' _ (flat.more_of-FlatExpr i _) n) h = by_same place g n ((shapes g).low + (n - 1)) i (value_same i) h

    number_is_same : (place : Place) (c : Word) (low : ℕ) (s : FlatSelection) → Alike (index_reads shapes s) → AreSame (number_meant shapes place c low s)
    number_is_same place c low (selection.Part high from) h =
        standing_same x y (λ k. refl) (high - from + 1) false [] true (λ z k. part_of c.value high from low) (λ k. refl)
    number_is_same place c low (selection.Bit' _ (flat.more_of-FlatExpr i _)) h = number_same place 1 c.width low c.value (meant shapes i) (value_same i h)
    number_is_same place c low (selection.Up' _ (flat.more_of-FlatExpr i _) n) h = number_same place n c.width low c.value (meant shapes i) (value_same i h)
    number_is_same place c low (selection.Down' _ (flat.more_of-FlatExpr i _) n) h = number_same place n c.width (low + (n - 1)) c.value (meant shapes i) (value_same i h)

    parts_same : {m : _} (parts : flat.Row_of-FlatExpr m) → Alike (parts_read shapes parts) → AreSame (parts_meant shapes parts)
    parts_same flat.end_of-FlatExpr h = standing_same x y (λ k. refl) 0 false [] true (λ z k. 0) (λ k. refl)
    parts_same (flat.more_of-FlatExpr a rest) h =
        beside_same x y (λ k. refl) (meant shapes a) (parts_meant shapes rest) (value_same a (left (reads shapes a) (parts_read shapes rest) h)) (parts_same rest (right (reads shapes a) (parts_read shapes rest) h))

-- flat expressions are a language: what statements over them do follows from it
abbrev pub flat_language : (ℕ → Shape) → Language FlatExpr
flat_language shapes = record {
  shape = λ g. shape_of (shapes g);
  length = length_of shapes;
  signed = is_signed shapes;
  sites = λ e w. length (sites_of shapes e w);
  fixed = is_fixed shapes;
  reads = reads shapes;
  value = λ e v u w s k. value_in shapes e (world shapes v u) w s k;
  local = λ e v w u width sign k h. value_same shapes v w u e h width sign k;
  steady = λ e v w u t width sign j k f. steady shapes e width sign f (world shapes v u) (world shapes w t) j k;
}
