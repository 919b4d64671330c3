-- Numbers as indexes.
use Rattle.std.proofs.Common.{◌≡◌, ℕ, ◌^◌, ◌-◌, ◌<◌, Bool, true, false, refl, sym, ap, ◌∙◌, subst, arith, ℤ, pos, negsuc}
use Rattle.std.specs.Prelude.{◌≤ℤ◌, ◌<ℤ◌}
use Rattle.std.proofs.Math.Nat.{mod-eq_of_lt}
use Rattle.std.proofs.lemmas.Int.{ints}
use Rattle.bits_core.specs.Word.{IsWord, number, resized}
use Rattle.bits_core.proofs.Laws.{wrap_signed}
use denote.Hole.Carrier.{hidden}
use Rattle.src_text.specs.declared.refusal.Place.{Place}
use Rattle.flat_tree.specs.declared.expr.FlatExpr.{FlatExpr, Literal, Parentheses}
use Rattle.flat_tree.specs.declared.expr.FlatExpr.TheBlock.{hidden-the_row-FlatExpr-0}
use Rattle.flat_tree.specs.declared.expr.Number.{Number}
use Rattle.flat_tree.specs.Values.{Shape}
use Rattle.flat_language.specs.Reads.{index_at}
use Rattle.flat_bits.specs.declared.index.Index.{Index}
use Rattle.flat_bits.specs.declared.index.Index.TheVariants.{Varying, At, Away}
use Rattle.flat_bits.specs.Index.{IsAway, IsNumberIndex, IsIndexOf}

own_width : (s : Bool) (w n : ℕ) → n < 2 ^ w → resized w s w n ≡ n
own_width true w n h = wrap_signed (2 ^ w) n h
own_width false w n h = mod-eq_of_lt h

-- a number as an index
pub literal_index : (shapes : ℕ → Shape) (n : Number) → IsWord n.word → index_at shapes (Literal n) ≡ number n.signed n.word.width n.word.value
literal_index shapes n W = ap (number n.signed n.word.width) (own_width n.signed n.word.width n.word.value W.below)

pub near_is : (shapes : ℕ → Shape) (n : Number) (r : Index) → IsWord n.word → IsNumberIndex n r → IsIndexOf shapes (Literal n) r
near_is shapes n Varying W h = absurd h
near_is shapes n (At y) W h = (refl, literal_index shapes n W ∙ h.0, h.1)
near_is shapes n Away W h = (refl, subst IsAway (sym (literal_index shapes n W)) h)

pub away_low : (z : ℤ) → z <ℤ negsuc (2 ^ 62 - 1) → IsAway z
away_low (pos n) h = absurd (omega (arith, ints, h))
away_low (negsuc n) h = omega (arith, ints, h)

pub away_high : (z : ℤ) → pos (2 ^ 62) ≤ℤ z → IsAway z
away_high (pos n) h = omega (arith, ints, h)
away_high (negsuc n) h = absurd (omega (arith, ints, h))

inside : (shapes : ℕ → Shape) (p : Place) (a : FlatExpr) (r : Index) → IsIndexOf shapes a r → IsIndexOf shapes (Parentheses p a) r
unfolding hidden-the_row-FlatExpr-0 hidden
inside shapes p a Varying h = h
inside shapes p a (At y) h = h
inside shapes p a Away h = h

pub index-parentheses : (shapes : ℕ → Shape) {e : FlatExpr} (p : Place) (a got : FlatExpr) (r : Index) → e ≡ Parentheses p a → got ≡ a → IsIndexOf shapes got r → IsIndexOf shapes e r
unfolding hidden-the_row-FlatExpr-0 hidden
index-parentheses shapes p a got r is is_a h = subst (λ x. IsIndexOf shapes x r) (sym (is ∙ ap (λ x. Parentheses p x) (sym is_a))) (inside shapes p got r h)
