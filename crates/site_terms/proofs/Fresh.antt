-- The variables of a site make its number.
use Rattle.std.proofs.Common.{◌≡◌, ℕ, ◌+◌, ◌-◌, ◌*◌, ◌%◌, ◌^◌, ◌<◌, ◌≤◌, List, [], ◌∷◌, ◌++◌, length, true, false, sym, ap, ◌∙◌, subst, arith, append_assoc, length-append}
use Rattle.std.specs.Prelude.{nat_lt, if◌then◌else◌}
use Rattle.std.proofs.lemmas.Bool.Decides.{nat_tests}
use Rattle.std.proofs.Math.Nat.{mod-eq_of_lt}
use Rattle.bits_core.specs.Word.{Word, word}
use Rattle.site_terms.specs.Sizes.{Makes, IsFresh, bits_of}
use Rattle.flat_tree.specs.declared.expr.PlacedSite.{PlacedSite}
use Rattle.flat_tree.specs.Values.{site_at, site_number}
use Rattle.src_text.specs.declared.refusal.Place.{Place}
use Rattle.term_steps.specs.Adds.{Adds}
use Rattle.term_steps.proofs.Adding.{typed_then}
use Rattle.word_eqs.specs.Graph.{Graph, IsTyped, width_in}
use Rattle.word_eqs.specs.Meaning.{Values, Respects}

narrow_lt : (w : ℕ) → w ≤ 64 → nat_lt 64 w ≡ false
narrow_lt w h = grind (arith, nat_tests)

wide_lt : (w : ℕ) → 64 < w → nat_lt 64 w ≡ true
wide_lt w h = grind (arith, nat_tests)

at_of : (n reads : ℕ) → reads ≤ n → reads + (n - reads) ≡ n
at_of n reads le = omega arith

next_of : (n reads : ℕ) → reads ≤ n → reads + (n - reads + 1) ≡ n + 1
next_of n reads le = omega arith

pub fresh_vars : (g h : Graph) (w t : ℕ) → IsFresh g h w t → length h.vars ≡ length g.vars + 1
fresh_vars g h w t a = ap (λ (xs : List ℕ). length xs) a.vars ∙ length-append g.vars (w ∷ [])

pub site_one : (g h : Graph) (w t : ℕ) → w ≤ 64 → IsFresh g h w t → (p : Place) (reads : ℕ) → reads ≤ length g.vars → Makes g h (site_at p w) w (λ v. site_number (λ k. (v.var (reads + k)).value) w (length g.vars - reads)) 0 3 t
site_one g h w t small a p reads le = record {
  grown = a.grown;
  value = λ v r. a.value v r ∙ ap (word w) (sym (number v r));
  typed = a.typed;
  vars = a.vars ∙ ap (λ (xs : List PlacedSite). g.vars ++ bits_of xs) (sym (ap (λ b. if b then (record { place = p; bits = 64 }) ∷ (record { place = p; bits = w - 64 }) ∷ [] else (record { place = p; bits = w }) ∷ []) (narrow_lt w small)));
  cost = let l = a.cost in omega arith;
  count = let l = a.count in omega arith;
}
  where
    number : (v : Values) → Respects v h → site_number (λ k. (v.var (reads + k)).value) w (length g.vars - reads) ≡ (v.var (length g.vars)).value
    number v r =
        ap (λ b. if b then ((v.var (reads + (length g.vars - reads + 1))).value % 2 ^ (w - 64)) * 2 ^ 64 + (v.var (reads + (length g.vars - reads))).value % 2 ^ 64 else (v.var (reads + (length g.vars - reads))).value % 2 ^ w) (narrow_lt w small)
        ∙ ap (λ k. (v.var k).value % 2 ^ w) (at_of (length g.vars) reads le)
        ∙ mod-eq_of_lt (a.below v r)

pub site_two : (g h i j : Graph) (w m lo hi t : ℕ) → 64 < w → m ≡ w - 64 → IsFresh g h 64 lo → IsFresh h i m hi →
    Adds i j (width_in i hi + width_in i lo) (λ v. (v.term hi).value * 2 ^ width_in i lo + (v.term lo).value) 0 1 t → (p : Place) (reads : ℕ) → reads ≤ length g.vars →
    Makes g j (site_at p w) w (λ v. site_number (λ k. (v.var (reads + k)).value) w (length g.vars - reads)) 0 3 t
site_two g h i j w m lo hi t wide me a b c p reads le = record {
  grown = λ v r. a.grown v (b.grown v (c.grown v r));
  value = λ v r.
      let ri = c.grown v r in
      let rh = b.grown v ri in
      let vl : (v.term lo).value ≡ (v.var (length g.vars)).value = ap (λ (x : Word). x.value) (a.value v rh) in
      let vh : (v.term hi).value ≡ (v.var (length g.vars + 1)).value = ap (λ (x : Word). x.value) (b.value v ri) ∙ ap (λ k. (v.var k).value) (fresh_vars g h 64 lo a) in
      c.value v r
      ∙ ap (λ k. word k ((v.term hi).value * 2 ^ width_in i lo + (v.term lo).value)) widths
      ∙ ap (λ k. word w ((v.term hi).value * 2 ^ k + (v.term lo).value)) low_width
      ∙ ap (λ x. word w (x * 2 ^ 64 + (v.term lo).value)) vh
      ∙ ap (λ y. word w ((v.var (length g.vars + 1)).value * 2 ^ 64 + y)) vl
      ∙ ap (word w) (sym (number v r));
  typed = subst (λ k. IsTyped g j k t) widths (typed_then g i j m _ hi t (typed_then g h i 64 m lo hi a.typed b.typed) c.typed);
  vars = c.vars ∙ b.vars ∙ ap (λ xs. xs ++ m ∷ []) a.vars ∙ append_assoc g.vars (64 ∷ []) (m ∷ []) ∙ ap (λ k. g.vars ++ 64 ∷ k ∷ []) me ∙ ap (λ (xs : List PlacedSite). g.vars ++ bits_of xs) (sym (ap (λ b. if b then (record { place = p; bits = 64 }) ∷ (record { place = p; bits = w - 64 }) ∷ [] else (record { place = p; bits = w }) ∷ []) (wide_lt w wide)));
  cost = let x = a.cost in let y = b.cost in let z = c.cost in omega arith;
  count = let x = a.count in let y = b.count in let z = c.count in omega arith;
}
  where
    low_width : width_in i lo ≡ 64
    low_width = b.typed.kept lo a.typed.there ∙ a.typed.width

    widths : width_in i hi + width_in i lo ≡ w
    widths = let x = b.typed.width in let y = low_width in omega arith

    number : (v : Values) → Respects v j → site_number (λ k. (v.var (reads + k)).value) w (length g.vars - reads) ≡ (v.var (length g.vars + 1)).value * 2 ^ 64 + (v.var (length g.vars)).value
    number v r =
        let ri = c.grown v r in
        let lh : (v.var (length g.vars + 1)).value < 2 ^ (w - 64) = subst (λ k. (v.var k).value < 2 ^ (w - 64)) (fresh_vars g h 64 lo a) (subst (λ k. (v.var (length h.vars)).value < 2 ^ k) me (b.below v ri)) in
        let ll : (v.var (length g.vars)).value < 2 ^ 64 = a.below v (b.grown v ri) in
        ap (λ b. if b then ((v.var (reads + (length g.vars - reads + 1))).value % 2 ^ (w - 64)) * 2 ^ 64 + (v.var (reads + (length g.vars - reads))).value % 2 ^ 64 else (v.var (reads + (length g.vars - reads))).value % 2 ^ w) (wide_lt w wide)
        ∙ ap (λ k. ((v.var k).value % 2 ^ (w - 64)) * 2 ^ 64 + (v.var (reads + (length g.vars - reads))).value % 2 ^ 64) (next_of (length g.vars) reads le)
        ∙ ap (λ k. ((v.var (length g.vars + 1)).value % 2 ^ (w - 64)) * 2 ^ 64 + (v.var k).value % 2 ^ 64) (at_of (length g.vars) reads le)
        ∙ ap (λ x. x * 2 ^ 64 + (v.var (length g.vars)).value % 2 ^ 64) (mod-eq_of_lt lh)
        ∙ ap (λ y. (v.var (length g.vars + 1)).value * 2 ^ 64 + y) (mod-eq_of_lt ll)
