-- Shifts at the width of the word and at that of the amount.
use Rattle.std.proofs.Common.{◌≡◌, ℕ, ◌+◌, ◌-◌, ◌*◌, ◌/◌, ◌%◌, ◌^◌, ◌<◌, ◌≤◌, Bool, true, false, length, refl, sym, ap, ◌∙◌, arith}
use Rattle.std.specs.Prelude.{max}
use Rattle.std.proofs.Math.Nat.{mod-eq_of_lt}
use Rattle.std.proofs.Math.Pow.{mod-mod-pow}
use Rattle.bits_core.specs.Word.{resized, wrap, read_signed, floor_div}
use Rattle.bits_core.specs.Ops.{value2, width2}
use Rattle.bits_core.specs.declared.op.Op2.{Op2}
use Rattle.bits_core.specs.declared.op.Op2.TheVariants as two
use Rattle.bits_core.proofs.Laws.{pow_le, extended_signed, wrap_again}
use Rattle.word_eqs.specs.Gates.{gates2}
use Rattle.word_eqs.specs.Graph.{Graph, IsGraph, width_in}
use Rattle.operator_terms.specs.Ways.{looks, is_shift}
use Rattle.term_steps.specs.Adds.{Adds}
use Rattle.term_steps.proofs.Adding.{below, chain, weaken, value_of}

extended : (n w x : ℕ) → w ≤ n → x < 2 ^ w → resized n false w x ≡ x
extended n w x h p = let le = pow_le w n h in let lt : x < 2 ^ n = omega arith in mod-eq_of_lt lt

mod_wide : (k w n : ℕ) → w ≤ n → k % 2 ^ n % 2 ^ w ≡ k % 2 ^ w
mod_wide k w n h = let e : n - w + w ≡ n = omega arith in ap (λ i. k % 2 ^ i % 2 ^ w) (sym e) ∙ mod-mod-pow k (n - w) w

-- what holds of each shift
each : (P : Op2 → Type 0) → P two.Shl → P two.ShrU → P two.ShrS → (op : Op2) → is_shift op ≡ true → P op
each P a b c two.Shl h = a
each P a b c two.ShrU h = b
each P a b c two.ShrS h = c
each P a b c op h = absurd cc

shift_gates : (op : Op2) → is_shift op ≡ true → (w : ℕ) → gates2 op w ≡ 40 * w
shift_gates op h = each (λ o. (w : ℕ) → gates2 o w ≡ 40 * w) (λ w. refl) (λ w. refl) (λ w. refl) op h

shift_width : (op : Op2) → is_shift op ≡ true → (w : ℕ) → width2 op w ≡ w
shift_width op h = each (λ o. (w : ℕ) → width2 o w ≡ w) (λ w. refl) (λ w. refl) (λ w. refl) op h

-- a word at a width with more room, shifted and cut
wide_is : (op : Op2) → is_shift op ≡ true → (w n x y : ℕ) → w ≤ n → x < 2 ^ w → resized w false n (value2 op n (resized n (looks op) w x) y) ≡ value2 op w x y
wide_is op h = each (λ o. (w n x y : ℕ) → w ≤ n → x < 2 ^ w → resized w false n (value2 o n (resized n (looks o) w x) y) ≡ value2 o w x y)
    (λ w n x y h p. ap (λ k. k * 2 ^ y % 2 ^ n % 2 ^ w) (extended n w x h p) ∙ mod_wide (x * 2 ^ y) w n h)
    (λ w n x y h p. ap (λ k. k / 2 ^ y % 2 ^ n % 2 ^ w) (extended n w x h p) ∙ mod_wide (x / 2 ^ y) w n h)
    (λ w n x y h p. ap (λ z. wrap (2 ^ n) (floor_div z (2 ^ y)) % 2 ^ w) (extended_signed (2 ^ w) (2 ^ n) x (pow_le w n h) p) ∙ wrap_again w n (floor_div (read_signed (2 ^ w) x) (2 ^ y)) h)
    op h

pub narrow_made : (g h i : Graph) (a b w amount t : ℕ) (op : Op2) → IsGraph i → is_shift op ≡ true → w ≡ width_in g a → a < length g.terms → b < length g.terms → width_in g b ≤ width_in g a →
    Adds g h w (λ v. resized w false (width_in g b) (v.term b).value) 0 1 amount →
    Adds h i (width2 op (width_in h a)) (λ v. value2 op (width_in h a) (v.term a).value (v.term amount).value) (gates2 op (width_in h a)) 1 t →
    Adds g i (width_in g a) (λ v. value2 op (width_in g a) (v.term a).value (v.term b).value) (40 * max (width_in g a) (width_in g b)) 3 t
narrow_made g h i a b w amount t op proper s is al bl le p q =
    let wa : width_in h a ≡ width_in g a = p.typed.kept a al in
    let c0 = chain g h i _ _ 0 (gates2 op (width_in h a)) 1 1 amount t _ _ (λ v. value2 op (width_in h a) (v.term a).value (v.term amount).value) p q (λ v r. refl) in
    let c1 = chain g h i _ _ 0 (gates2 op (width_in h a)) 1 1 amount t _ _ (λ v. value2 op (width_in g a) (v.term a).value (v.term b).value) p q
    (λ v r.
    ap (λ k. value2 op k (v.term a).value (v.term amount).value) wa
    ∙ ap (value2 op (width_in g a) (v.term a).value) (value_of g h _ _ _ amount _ p v (q.grown v r) ∙ extended w (width_in g b) (v.term b).value (omega (arith, is)) (below g i _ t v b proper c0.typed r bl))) in
    weaken g i _ (width_in g a) _ _ _ 3 t _ c1 (shift_width op s (width_in h a) ∙ wa) (let e = shift_gates op s (width_in h a) in omega (arith, e, wa)) (omega arith)

pub wide_made : (g h i j : Graph) (a b w n x y t : ℕ) (op : Op2) (l : Bool) → IsGraph j → is_shift op ≡ true → l ≡ looks op → w ≡ width_in g a → n ≡ width_in g b → a < length g.terms → b < length g.terms → width_in g a ≤ width_in g b →
    Adds g h n (λ v. resized n l (width_in g a) (v.term a).value) 0 1 x →
    Adds h i (width2 op (width_in h x)) (λ v. value2 op (width_in h x) (v.term x).value (v.term b).value) (gates2 op (width_in h x)) 1 y →
    Adds i j w (λ v. resized w false (width_in i y) (v.term y).value) 0 1 t →
    Adds g j (width_in g a) (λ v. value2 op (width_in g a) (v.term a).value (v.term b).value) (40 * max (width_in g a) (width_in g b)) 3 t
wide_made g h i j a b w n x y t op l proper s il iw en al bl le p q r =
    let wx : width_in h x ≡ n = p.typed.width in
    let wy : width_in i y ≡ n = q.typed.width ∙ shift_width op s (width_in h x) ∙ wx in
    let c1 = chain g h i _ _ 0 (gates2 op (width_in h x)) 1 1 x y _ _ (λ v. value2 op (width_in h x) (v.term x).value (v.term b).value) p q (λ v r. refl) in
    let c0 = chain g i j _ _ (0 + gates2 op (width_in h x)) 0 (1 + 1) 1 y t _ _ (λ v. resized w false (width_in i y) (v.term y).value) c1 r (λ v r. refl) in
    let c2 = chain g i j _ _ (0 + gates2 op (width_in h x)) 0 (1 + 1) 1 y t _ _ (λ v. value2 op (width_in g a) (v.term a).value (v.term b).value) c1 r
    (λ v e.
    let ei = r.grown v e in
    ap (λ k. resized w false k (v.term y).value) wy
    ∙ ap (resized w false n) (value_of h i _ _ _ y _ q v ei ∙ ap (λ k. value2 op k (v.term x).value (v.term b).value) wx ∙ ap (λ k. value2 op n k (v.term b).value) (value_of g h _ _ _ x _ p v (q.grown v ei) ∙ ap (λ z. resized n z (width_in g a) (v.term a).value) il))
    ∙ ap (λ k. resized k false n (value2 op n (resized n (looks op) (width_in g a) (v.term a).value) (v.term b).value)) iw
    ∙ wide_is op s (width_in g a) n (v.term a).value (v.term b).value (omega (arith, en)) (below g j _ t v a proper c0.typed e al)) in
    weaken g j _ (width_in g a) _ _ _ 3 t _ c2 iw (let e = shift_gates op s (width_in h x) in omega (arith, e, wx, en)) (omega arith)
