-- The words of the view that a row stands for are those of its terms.
use Rattle.std.proofs.Common.{◌≡◌, ℕ, zero, suc, ◌+◌, ◌-◌, ◌*◌, ◌/◌, ◌%◌, ◌^◌, ◌<◌, ◌≤◌, List, Bool, true, inl, inr, eqb, length, refl, sym, ap, ◌∙◌, subst, arith, eq-eqb}
use Rattle.std.specs.Prelude.{max, nat_lt, ◌&&◌, if◌then◌else◌}
use Rattle.std.proofs.lemmas.Bool.{cases_eq, ne_eqb}
use Rattle.std.proofs.lemmas.Bool.Decides.{Decides-ltb, Decides-eqb}
use Rattle.std.proofs.lemmas.Nat.{pow_pos}
use Rattle.std.proofs.Math.Nat.{mod-eq_of_lt}
use native.Mathlib.Nat.{pow-succ'}
use Rattle.bits_core.specs.Word.{word}
use Rattle.v_views.specs.Spots.{View, spot, bit_of, is_bit_of}
use Rattle.v_views.proofs.Bools.{both}
use Rattle.flat_tree.specs.declared.design.FlatSignal.{FlatSignal}
use Rattle.flat_tree.specs.declared.expr.FlatExpr.{FlatExpr}
use Rattle.flat_tree.specs.Values.{Shape, World, meant}
use Rattle.flat_language.specs.Reads.{number, world, shape_of}
use Rattle.flat_language.proofs.Local.{flat_language}
use Rattle.flat_values.specs.Fits.{IsSignal, IsTaken, shapes_of}
use Rattle.flat_values.proofs.Forms.{fits_less}
use Rattle.site_terms.specs.Sizes.{Makes}
use Rattle.sized_expressions.specs.Sized.{world_in, IsKnown, MaySize, IsTermOf}
use Rattle.view_rows.specs.Rows.{place_in, view_in, IsRow}
use Rattle.part_stores.specs.Stores.{seen}
use Rattle.view_expressions.specs.Viewed.{MayView, sites_in, IsViewed}
use Rattle.view_expressions.proofs.Agreeing.{agrees}
use Rattle.word_eqs.specs.declared.term.TermId.{TermId}
use Rattle.word_eqs.specs.Graph.{Graph, IsGraph, width_in}
use Rattle.word_eqs.specs.Meaning.{Values, Respects}
use Rattle.word_eqs.proofs.Evals.{words_of_terms}

number_same : (w : ℕ) (f g : ℕ → Bool) → ((k : ℕ) → k < w → f k ≡ g k) → number w f ≡ number w g
number_same zero f g h = refl
number_same (suc w) f g h =
    ap (λ b. (if b then 1 else 0) + 2 * number w (λ k. f (suc k))) (h 0 (omega arith))
    ∙ ap (λ n. (if g 0 then 1 else 0) + 2 * n) (number_same w (λ k. f (suc k)) (λ k. g (suc k)) (λ k lt. h (suc k) (omega arith)))

double_mod : (n m : ℕ) → 0 < m → n % (2 * m) ≡ n % 2 + 2 * (n / 2 % m)
double_mod n m pos = grind arith

low_bit : (n : ℕ) → (if eqb (n % 2) 1 then 1 else 0) ≡ n % 2
low_bit n = elim (cases_eq (n % 2) 1) [
  | inl e ↦ ap (λ b. if b then 1 else 0) (eq-eqb (n % 2) 1 e) ∙ sym e
  | inr h ↦ let z : n % 2 ≡ 0 = omega arith in ap (λ b. if b then 1 else 0) (ne_eqb (n % 2) 1 h) ∙ sym z
]

number_mod : (w n : ℕ) → number w (bit_of n) ≡ n % 2 ^ w
number_mod zero n = let e : n % 1 ≡ 0 = omega arith in sym e
number_mod (suc w) n =
    let pos : 0 < 2 ^ w = pow_pos w in
    ap (λ m. (if eqb (n % 2) 1 then 1 else 0) + 2 * m) (number_mod w (n / 2))
    ∙ ap (λ m. m + 2 * (n / 2 % 2 ^ w)) (low_bit n)
    ∙ sym (double_mod n (2 ^ w) pos)
    ∙ ap (λ m. n % m) (sym (pow-succ' 2 w))

module _ (signals : List FlatSignal) (starts : List ℕ) (words : List TermId) (g : Graph) (row : IsRow (length signals) (seen (shapes_of signals)) starts words g) where
  abbrev shapes : ℕ → Shape
  shapes = shapes_of signals

  known : (k : ℕ) → IsSignal (length signals) shapes k → IsKnown (length signals) shapes starts words g k
  known k s = record {
    signal = s;
    start = let a = s.there in let b = row.size in omega (arith, a, b);
    inside = row.inside k s.there;
    there = λ i lt. row.there k i s.there lt;
    width = λ i lt. row.width k i s.there lt;
  }

  -- an expression that may be taken may be walked over
  pub may_size : (e : FlatExpr) (w : ℕ) → MayView signals starts words g e w → MaySize signals starts words g e w
  may_size e w m = record {
    fits = fits_less (IsSignal (length signals) shapes) (IsKnown (length signals) shapes starts words g) (Unit {0}) (Unit {0}) (Unit {0}) (Unit {0}) known (λ u. u) (λ u. u) shapes e m.fits;
    width = m.width;
    few = m.few;
    room = m.room;
  }

  module _ (proper : IsGraph g) (v : Values) (r : Respects v g) (others : ℕ) where
    abbrev view : View
    view = view_in (seen shapes) starts words v

    same_word : (k i : ℕ) → IsSignal (length signals) shapes k → i < max 1 (shapes k).words → (world_in starts words others v).word k i ≡ (world shapes view (sites_in others v)).word k i
    same_word k i s lt =
        let t = place_in starts words k i in
        let n = (v.term t).value in
        let bits = (shapes k).bits in
        let w = words_of_terms v g proper r t (row.there k i s.there lt) in
        let below : n < 2 ^ bits = subst (λ m. n < 2 ^ m) (w.1 ∙ row.width k i s.there lt) w.0.below in
        sym (number_same bits (λ j. view (spot k i j)) (bit_of n) (λ j l. ap (λ b. b && bit_of n j) (is_bit k i j lt l)) ∙ number_mod bits n ∙ mod-eq_of_lt below)
      where
        is_bit : (k i j : ℕ) → i < max 1 (shapes k).words → j < (shapes k).bits → is_bit_of (shape_of (shapes k)) k (spot k i j) ≡ true
        is_bit k i j p q =
            both (eqb k k) _ ((Decides-eqb k k).1 refl) (both (nat_lt i (max 1 (shapes k).words)) (nat_lt j (shapes k).bits) ((Decides-ltb i (max 1 (shapes k).words)).1 p) ((Decides-ltb j (shapes k).bits).1 q))

    same_value : (e : FlatExpr) (w : ℕ) (s : Bool) (k : ℕ) → IsTaken (length signals) shapes e → (let m = meant shapes e in m.value (world_in starts words others v) w s k) ≡ (let l = flat_language shapes in l.value e view (sites_in others v) w s k)
    same_value e w s k fits = agrees (IsSignal (length signals) shapes) shapes (world_in starts words others v) (world shapes view (sites_in others v)) (λ j. refl) same_word e fits w s k

  pub viewed : IsGraph g → (h : Graph) (e : FlatExpr) (w : ℕ) (s : Bool) (t : ℕ) → IsTaken (length signals) shapes e → IsTermOf signals starts words e w s g h t → IsViewed signals starts words e w s g h t
  viewed proper h e w s t fits a others le =
      let m = a others le in
      record {
        grown = m.grown;
        value = λ v r. m.value v r ∙ ap (word w) (same_value proper v (m.grown v r) others e w s (length g.vars - others) fits);
        typed = m.typed;
        vars = m.vars;
        cost = m.cost;
        count = m.count;
      }
