-- The value of an expression depends on the words of its signals.
use Rattle.std.proofs.Common.{◌≡◌, ℕ, ◌+◌, ◌-◌, ◌<◌, [], Bool, true, false, inl, inr, refl, sym, ap, ◌∙◌, arith}
use Rattle.std.specs.Prelude.{max, nat_lt, if◌then◌else◌, ℤ, pos, negsuc, ◌-ℤ◌}
use Rattle.std.proofs.lemmas.Bool.Decides.{Decides-ltb}
use Rattle.std.proofs.lemmas.Bool.{cases_Bool}
use Rattle.bits_core.specs.Word.{Word}
use Rattle.src_text.specs.declared.refusal.Place.{Place}
use Rattle.flat_tree.specs.Selects.{bits_read, word_read, are_inside, is_word}
use Rattle.flat_tree.specs.Values.{Shape, World, Meant, standing, is_sure, bits_by, word_by, by_index, part_of, meant, select_meant, number_meant, parts_meant}
use Rattle.flat_tree.specs.declared.expr.FlatExpr.{FlatExpr}
use Rattle.flat_tree.specs.declared.expr.FlatExpr as flat
use Rattle.flat_tree.specs.declared.expr.FlatSelection.{FlatSelection}
use Rattle.flat_tree.specs.declared.expr.FlatSelection as selection
use Rattle.flat_laws.proofs.Same.{Same, standing_same, binary_same, unary_same, conditional_same, replicated_same, cast_same, beside_same, indexed_same}
use Rattle.flat_values.specs.Fits.{Fits, FitsSelect, FitsNumber, FitsParts}

-- in two worlds with the same numbers of sites, and the same words of signals that are known
module _ (known : ℕ → Type 0) (shapes : ℕ → Shape) (x y : World) (sites : (k : ℕ) → x.unknown k ≡ y.unknown k) (word_same : (g i : ℕ) → known g → i < max 1 (shapes g).words → x.word g i ≡ y.word g i) where
  abbrev AreSame : Meant → Type 0
  AreSame m = Same x y sites m

  abbrev Takes : FlatExpr → Type 0
  Takes e = Fits known (Unit {0}) (Unit {0}) shapes e

  span_same : (place : Place) (g n lowest : ℕ) (i : Meant) → known g → AreSame i → AreSame (bits_by place n (shapes g).bits lowest false (λ z. z.word g 0) i)
  span_same place g n lowest i h p =
      indexed_same x y sites (is_sure (λ at. are_inside n (shapes g).bits (at -ℤ pos lowest)) i) place n false false i
      (λ z at site. bits_read n (shapes g).bits (z.word g 0) site (at -ℤ pos lowest)) p
      (λ at site. ap (λ word. bits_read n (shapes g).bits word site (at -ℤ pos lowest)) (word_same g 0 h (omega arith)))

  index_same : (place : Place) (g : ℕ) (i : Meant) → known g → AreSame i → AreSame (by_index place (shapes g) g i)
  index_same place g i h p = pick (nat_lt 0 (shapes g).words)
    where
      by_word : (at : ℤ) (site : ℕ) → word_read (x.word g) (shapes g).words site at ≡ word_read (y.word g) (shapes g).words site at
      by_word (pos j) n = elim (cases_Bool (nat_lt j (shapes g).words)) [
        | inl t ↦
            let lt : j < (shapes g).words = (Decides-ltb j (shapes g).words).0 t in
            ap (λ m. if nat_lt j (shapes g).words then m else n) (word_same g j h (omega arith))
        | inr f ↦ ap (λ c. if c then x.word g j else n) f ∙ sym (ap (λ c. if c then y.word g j else n) f)
      ]
      by_word (negsuc j) n = refl

      pick : (c : Bool) → AreSame (if c then word_by place (shapes g) g i else bits_by place 1 (shapes g).bits (shapes g).low false (λ z. z.word g 0) i)
      pick true = indexed_same x y sites (is_sure (is_word (shapes g).words) i) place (shapes g).bits (shapes g).signed false i (λ z at site. word_read (z.word g) (shapes g).words site at) p by_word
      pick false = span_same place g 1 (shapes g).low i h p

  number_same : (place : Place) (n width lowest word : ℕ) (i : Meant) → AreSame i → AreSame (bits_by place n width lowest true (λ z. word) i)
  number_same place n width lowest word i p =
      indexed_same x y sites (is_sure (λ at. are_inside n width (at -ℤ pos lowest)) i) place n false true i (λ z at site. bits_read n width word site (at -ℤ pos lowest)) p (λ at site. refl)

  mutual
    pub agrees : (e : FlatExpr) → Takes e → AreSame (meant shapes e)
    agrees (flat.Literal n) h = standing_same x y sites n.word.width n.signed [] true (λ z k. n.word.value) (λ k. refl)
    agrees (flat.Signal place g) h = standing_same x y sites (shapes g).bits (shapes g).signed [] false (λ z k. z.word g 0) (λ k. word_same g 0 h.0 (omega arith))
    agrees (flat.Select place g s) h = select_agrees place g s h.0 h.1
    agrees (flat.SelectNumber place c low s) h = number_agrees place c low s h.1
    agrees (flat.Unary' operator _ (flat.more_of-FlatExpr a _)) h = unary_same x y sites operator.op (meant shapes a) (agrees a h)
    agrees (flat.Binary' _ (flat.more_of-FlatExpr a _) operator _ (flat.more_of-FlatExpr b _)) h = binary_same x y sites operator.place operator.op (meant shapes a) (meant shapes b) (agrees a h.0) (agrees b h.1)
    agrees (flat.Conditional' _ (flat.more_of-FlatExpr c _) _ (flat.more_of-FlatExpr a _) _ (flat.more_of-FlatExpr b _)) h =
        conditional_same x y sites (meant shapes c) (meant shapes a) (meant shapes b) (agrees c h.0) (agrees a h.1) (agrees b h.2)
    agrees (flat.Parentheses' place _ (flat.more_of-FlatExpr a _)) h = agrees a h
    agrees (flat.Concatenation' place _ parts) h = parts_agree parts h.0
    agrees (flat.Replication' place c _ parts) h = replicated_same x y sites c (parts_meant shapes parts) (parts_agree parts h.0)
    agrees (flat.Signed' place _ (flat.more_of-FlatExpr a _)) h = cast_same x y sites true (meant shapes a) (agrees a h)
    agrees (flat.Unsigned' place _ (flat.more_of-FlatExpr a _)) h = cast_same x y sites false (meant shapes a) (agrees a h)

    select_agrees : (place : Place) (g : ℕ) (s : FlatSelection) → known g → FitsSelect known (Unit {0}) (Unit {0}) shapes g s → AreSame (select_meant shapes place g s)
    select_agrees place g (selection.Part high low) n h =
        standing_same x y sites (high - low + 1) false [] false (λ z k. part_of (z.word g 0) high low (shapes g).low) (λ k. ap (λ word. part_of word high low (shapes g).low) (word_same g 0 n (omega arith)))
    select_agrees place g (selection.Bit' _ (flat.more_of-FlatExpr i _)) n h = index_same place g (meant shapes i) n (agrees i h.0)
    select_agrees place g (selection.Up' _ (flat.more_of-FlatExpr i _) c) n h = span_same place g c (shapes g).low (meant shapes i) n (agrees i h.2)
    select_agrees place g (selection.Down' _ (flat.more_of-FlatExpr i _) c) n h = span_same place g c ((shapes g).low + (c - 1)) (meant shapes i) n (agrees i h.2)

    number_agrees : (place : Place) (c : Word) (low : ℕ) (s : FlatSelection) → FitsNumber known (Unit {0}) (Unit {0}) shapes c.width low s → AreSame (number_meant shapes place c low s)
    number_agrees place c low (selection.Part high from) h = standing_same x y sites (high - from + 1) false [] true (λ z k. part_of c.value high from low) (λ k. refl)
    number_agrees place c low (selection.Bit' _ (flat.more_of-FlatExpr i _)) h = number_same place 1 c.width low c.value (meant shapes i) (agrees i h.1)
    number_agrees place c low (selection.Up' _ (flat.more_of-FlatExpr i _) n) h = number_same place n c.width low c.value (meant shapes i) (agrees i h.2)
    number_agrees place c low (selection.Down' _ (flat.more_of-FlatExpr i _) n) h = number_same place n c.width (low + (n - 1)) c.value (meant shapes i) (agrees i h.2)

    parts_agree : {m : _} (parts : flat.Row_of-FlatExpr m) → FitsParts known (Unit {0}) (Unit {0}) shapes parts → AreSame (parts_meant shapes parts)
    parts_agree flat.end_of-FlatExpr h = standing_same x y sites 0 false [] true (λ z k. 0) (λ k. refl)
    parts_agree (flat.more_of-FlatExpr a rest) h = beside_same x y sites (meant shapes a) (parts_meant shapes rest) (agrees a h.0) (parts_agree rest h.1)
