-- Stores to parts, one after the other.
use Rattle.std.proofs.Common.{◌≡◌, ℕ, zero, suc, ◌+◌, ◌-◌, ◌*◌, ◌/◌, ◌%◌, ◌^◌, ◌<◌, ◌≤◌, List, [], ◌∷◌, ◌++◌, length, refl, sym, ap, ◌∙◌, subst, arith, take, get_or, length-append, append-nil, append_assoc, pow-add}
use Rattle.std.specs.Prelude.{Option}
use Rattle.std.proofs.lemmas.List.{take_more}
use native.Mathlib.Nat.{div-div-eq-div-mul}
use Rattle.bits_core.specs.Word.{at_zero}
use Rattle.v_views.specs.Spots.{Spot, View, Shape, spread, written}
use Rattle.v_views.proofs.Writing.{written_append}
use Rattle.term_steps.specs.Adds.{Adds}
use Rattle.term_steps.proofs.Adding.{value_of}
use Rattle.view_rows.specs.declared.stores.Part.{Part}
use Rattle.view_rows.specs.Rows.{place_in, view_in, part_places, IsRow, FitsPart, IsStored}
use Rattle.view_rows.proofs.Viewing.{bits_length}
use Rattle.part_stores.specs.Stores.{all_places, all_bits, IsWrittenTo, IsPartStored, AreStored}
use Rattle.part_stores.proofs.Spreading.{spread_append, spread_mod}
use Rattle.word_eqs.specs.declared.term.TermId.{TermId}
use Rattle.word_eqs.specs.Graph.{Graph, IsTyped, width_in}
use Rattle.word_eqs.specs.Meaning.{Values, Respects}

-- a row whose terms stay
pub row_grown : (count : ℕ) (shape : ℕ → Shape) (starts : List ℕ) (words : List TermId) (g h : Graph) (w t : ℕ) → IsTyped g h w t → IsRow count shape starts words g → IsRow count shape starts words h
row_grown count shape starts words g h w t ty row = record {
  size = row.size;
  inside = row.inside;
  apart = row.apart;
  there = λ k i p q. let a = row.there k i p q in let b = ty.longer in omega (arith, a, b);
  width = λ k i p q. ty.kept (place_in starts words k i) (row.there k i p q) ∙ row.width k i p q;
  none = row.none;
}

-- one part
pub part_stored : (count : ℕ) (shape : ℕ → Shape) (starts : List ℕ) (before after : List TermId) (p : Part) (value low n piece guard : ℕ) (g h i : Graph) → n ≡ p.high - p.low + 1 → value < length g.terms →
    Adds g h n (λ v. (v.term value).value / 2 ^ low % 2 ^ n) 0 1 piece → IsStored count shape starts before after p piece guard h i → IsPartStored count shape starts before after p value low guard g i
part_stored count shape starts before after p value low n piece guard g h i is lt a s = record {
  grown = λ v r. a.grown v (s.grown v r);
  view = λ v r.
      let n_is = bits_length p.signal p.word p.low (p.high - p.low + 1) in
      let fits : length (part_places p) ≤ n = omega (arith, n_is, is) in
      s.view v r
      ∙ ap (λ m. at_zero (v.term guard).value (view_in shape starts before v) (written m (view_in shape starts before v)))
      (ap (spread (part_places p)) (value_of g h n 0 1 piece _ a v (s.grown v r)) ∙ spread_mod (part_places p) n ((v.term value).value / 2 ^ low) fits);
  row = s.row;
  size = s.size;
  longer = let x = s.longer in let y = a.typed in let z = y.longer in omega (arith, x, z);
  kept = λ k l. let y = a.typed in let z = y.longer in s.kept k (omega (arith, l, z)) ∙ y.kept k l;
  vars = s.vars ∙ a.vars;
  cost = let x = s.cost in let y = a.cost in omega (arith, x, y);
  few = let x = s.terms in let y = a.count in omega (arith, x, y);
}

-- no part yet
pub none_stored : (count : ℕ) (shape : ℕ → Shape) (starts : List ℕ) (words : List TermId) (value low guard : ℕ) (g : Graph) → IsRow count shape starts words g → AreStored count shape starts words words [] value low guard g g
none_stored count shape starts words value low guard g row = record {
  grown = λ v r. r;
  view = λ v r. same (v.term guard).value (view_in shape starts words v);
  row = row;
  size = refl;
  longer = omega arith;
  kept = λ k l. refl;
  vars = refl;
  cost = omega arith;
  few = omega arith;
}
  where
    same : (n : ℕ) (v : View) → v ≡ at_zero n v v
    same zero v = refl
    same (suc n) v = refl

-- one after the other, under one guard
twice : (n : ℕ) (f g : View → View) (v : View) → at_zero n (at_zero n v (f v)) (g (at_zero n v (f v))) ≡ at_zero n v (g (f v))
twice zero f g v = refl
twice (suc n) f g v = refl

-- the places and the bits of one part more
pub places_push : (ps : List Part) (p : Part) → all_places (ps ++ p ∷ []) ≡ all_places ps ++ part_places p
places_push [] p = append-nil (part_places p)
places_push (q ∷ ps) p = ap (λ l. part_places q ++ l) (places_push ps p) ∙ sym (append_assoc (part_places q) (all_places ps) (part_places p))

pub bits_push : (ps : List Part) (p : Part) → all_bits (ps ++ p ∷ []) ≡ all_bits ps + (p.high - p.low + 1)
bits_push [] p = omega arith
bits_push (q ∷ ps) p = let e = bits_push ps p in omega (arith, e)

pub more_stored : (count : ℕ) (shape : ℕ → Shape) (starts : List ℕ) (first before after : List TermId) (ps : List Part) (p : Part) (value top guard : ℕ) (g h i : Graph) → p.high - p.low + 1 ≤ top →
    AreStored count shape starts first before ps value top guard g h → IsPartStored count shape starts before after p value (top - (p.high - p.low + 1)) guard h i → AreStored count shape starts first after (ps ++ p ∷ []) value (top - (p.high - p.low + 1)) guard g i
more_stored count shape starts first before after ps p value top guard g h i le a b = record {
  grown = λ v r. a.grown v (b.grown v r);
  view = λ v r.
      let n = (v.term guard).value in
      let low = top - (p.high - p.low + 1) in
      let bits = p.high - p.low + 1 in
      let m = (v.term value).value in
      let view = view_in shape starts first v in
      let one : View → View = λ w. written (spread (all_places ps) (m / 2 ^ top)) w in
      let two : View → View = λ w. written (spread (part_places p) (m / 2 ^ low)) w in
      let sum : low + bits ≡ top = omega (arith, le) in
      let high : m / 2 ^ low / 2 ^ length (part_places p) ≡ m / 2 ^ top =
      ap (λ k. m / 2 ^ low / 2 ^ k) (bits_length p.signal p.word p.low bits) ∙ div-div-eq-div-mul m (2 ^ low) (2 ^ bits) ∙ ap (λ k. m / k) (sym (pow-add 2 low bits)) ∙ ap (λ k. m / 2 ^ k) sum in
      let all : spread (all_places (ps ++ p ∷ [])) (m / 2 ^ low) ≡ spread (all_places ps) (m / 2 ^ top) ++ spread (part_places p) (m / 2 ^ low) =
      ap (λ l. spread l (m / 2 ^ low)) (places_push ps p) ∙ spread_append (all_places ps) (part_places p) (m / 2 ^ low) ∙ ap (λ k. spread (all_places ps) k ++ spread (part_places p) (m / 2 ^ low)) high in
      b.view v r
      ∙ ap (λ w. at_zero n w (two w)) (a.view v (b.grown v r))
      ∙ twice n one two view
      ∙ ap (at_zero n view) (sym (ap (λ l. written l view) all ∙ written_append (spread (all_places ps) (m / 2 ^ top)) (spread (part_places p) (m / 2 ^ low)) view));
  row = b.row;
  size = b.size ∙ a.size;
  longer = let x = a.longer in let y = b.longer in omega (arith, x, y);
  kept = λ k l. let x = a.longer in b.kept k (omega (arith, l, x)) ∙ a.kept k l;
  vars = b.vars ∙ a.vars;
  cost = let x = a.cost in let y = b.cost in let z = bits_push ps p in omega (arith, x, y, z);
  few = let x = a.few in let y = b.few in let z = length-append ps (p ∷ []) in omega (arith, x, y, z);
}

pub places_length : (ps : List Part) → length (all_places ps) ≡ all_bits ps
places_length [] = refl
places_length (p ∷ ps) = let a = length-append (part_places p) (all_places ps) in let b = bits_length p.signal p.word p.low (p.high - p.low + 1) in let c = places_length ps in omega (arith, a, b, c)

pub few_parts : (ps : List Part) → length ps ≤ all_bits ps
few_parts [] = omega arith
few_parts (p ∷ ps) = let a = few_parts ps in omega (arith, a)

-- the bits of the first parts are some of all
pub bits_take : (i : ℕ) (ps : List Part) → all_bits (take i ps) ≤ all_bits ps
bits_take zero ps = omega arith
bits_take (suc i) [] = omega arith
bits_take (suc i) (p ∷ ps) = let a = bits_take i ps in omega (arith, a)

pub next_bits : (ps : List Part) (i : ℕ) (d : Part) → i < length ps → all_bits (take (i + 1) ps) ≡ all_bits (take i ps) + ((get_or ps i d).high - (get_or ps i d).low + 1)
next_bits ps i d lt = ap all_bits (take_more ps i d lt) ∙ bits_push (take i ps) (get_or ps i d)

pub next_fits : (ps : List Part) (i top : ℕ) (d : Part) → i < length ps → top ≡ all_bits ps - all_bits (take i ps) → (get_or ps i d).high - (get_or ps i d).low + 1 ≤ top
next_fits ps i top d lt is = let a = next_bits ps i d lt in let b = bits_take (i + 1) ps in omega (arith, a, b, is)
