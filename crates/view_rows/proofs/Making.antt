-- The terms of a word some of whose bits are changed.
use Rattle.std.proofs.Common.{◌≡◌, ℕ, ◌+◌, ◌-◌, ◌*◌, ◌/◌, ◌%◌, ◌^◌, ◌<◌, ◌≤◌, length, refl, sym, ap, ◌∙◌, subst, arith}
use Rattle.bits_core.specs.Word.{at_zero, Word, word}
use Rattle.word_eqs.specs.Graph.{Graph, IsGraph, IsTyped, width_in}
use Rattle.word_eqs.specs.Meaning.{Values}
use Rattle.word_eqs.proofs.Evals.{words_of_terms}
use Rattle.term_steps.specs.Adds.{Adds}
use Rattle.term_steps.proofs.Adding.{chain, weaken, value_of, below}
use Rattle.view_rows.specs.Parts.{upper, lower, mixed, changed}

-- a term that is there, for a value that is its own
itself : (g : Graph) (w c n t : ℕ) (f : Values → ℕ) → IsGraph g → t < length g.terms → width_in g t ≡ w → ((v : Values) → (v.term t).value ≡ f v) → Adds g g w f c n t
itself g w c n t f proper lt is same = record {
  grown = λ v r. r;
  value = λ v r. ap (λ k. word k (v.term t).value) ((words_of_terms v g proper r t lt).1 ∙ is) ∙ ap (word w) (same v);
  typed = record { there = lt; width = is; longer = omega arith; kept = λ k l. refl };
  vars = refl;
  cost = omega arith;
  count = omega arith;
}

-- a number has no bits above its highest
upper_none : (w high n a p : ℕ) → high + 1 ≡ w → p ≡ upper w high n a p
upper_none w high n a p e =
    let z : w - 1 - high ≡ 0 = omega arith in
    let r : a / 2 ^ (high + 1) % 2 ^ 0 ≡ 0 = omega arith in
    let q : p ≡ 0 * 2 ^ n + p = omega arith in
    q ∙ ap (λ k. k * 2 ^ n + p) (sym r) ∙ ap (λ k. a / 2 ^ (high + 1) % 2 ^ k * 2 ^ n + p) (sym z)

pub upper_kept : (g : Graph) (at high part width : ℕ) → IsGraph g → part < length g.terms → width ≡ width_in g at → high + 1 ≡ width →
    Adds g g (width_in g at - 1 - high + width_in g part) (λ v. upper (width_in g at) high (width_in g part) (v.term at).value (v.term part).value) 0 2 part
upper_kept g at high part width proper lt is e =
    itself g _ 0 2 part _ proper lt (omega (arith, is, e)) (λ v. upper_none (width_in g at) high (width_in g part) (v.term at).value (v.term part).value (e ∙ is))

pub upper_made : (g h i : Graph) (at high part above t width : ℕ) → at < length g.terms → part < length g.terms → width ≡ width_in g at → high < width_in g at → ((high + 1 ≡ width) → ⊥) →
    Adds g h (width - 1 - (high + 1) + 1) (λ v. (v.term at).value / 2 ^ (high + 1) % 2 ^ (width - 1 - (high + 1) + 1)) 0 1 above →
    Adds h i (width_in h above + width_in h part) (λ v. (v.term above).value * 2 ^ width_in h part + (v.term part).value) 0 1 t →
    Adds g i (width_in g at - 1 - high + width_in g part) (λ v. upper (width_in g at) high (width_in g part) (v.term at).value (v.term part).value) 0 2 t
upper_made g h i at high part above t width al pl is lt ne p q =
    let n : width - 1 - (high + 1) + 1 ≡ width_in g at - 1 - high = omega (arith, is, lt) in
    let wa : width_in h above ≡ width_in g at - 1 - high = p.typed.width ∙ n in
    let wp : width_in h part ≡ width_in g part = p.typed.kept part pl in
    let c = chain g h i (width - 1 - (high + 1) + 1) (width_in h above + width_in h part) 0 0 1 1 above t _ _ (λ v. upper (width_in g at) high (width_in g part) (v.term at).value (v.term part).value) p q
    (λ v e.
    ap (λ x. x * 2 ^ width_in h part + (v.term part).value) (value_of g h _ 0 1 above _ p v (q.grown v e) ∙ ap (λ k. (v.term at).value / 2 ^ (high + 1) % 2 ^ k) n)
    ∙ ap (λ k. (v.term at).value / 2 ^ (high + 1) % 2 ^ (width_in g at - 1 - high) * 2 ^ k + (v.term part).value) wp) in
    weaken g i _ (width_in g at - 1 - high + width_in g part) (0 + 0) 0 (1 + 1) 2 t _ c (omega (arith, wa, wp)) (omega arith) (omega arith)

lower_none : (low a p : ℕ) → low ≡ 0 → p ≡ lower low a p
lower_none low a p e =
    let r : a % 2 ^ 0 ≡ 0 = omega arith in
    let q : p ≡ p * 2 ^ 0 + 0 = omega arith in
    q ∙ ap (λ k. p * 2 ^ 0 + k) (sym r) ∙ ap (λ k. p * 2 ^ k + a % 2 ^ k) (sym e)

pub lower_kept : (g : Graph) (at low part : ℕ) → IsGraph g → part < length g.terms → low ≡ 0 → Adds g g (width_in g part + low) (λ v. lower low (v.term at).value (v.term part).value) 0 2 part
lower_kept g at low part proper lt e = itself g _ 0 2 part _ proper lt (omega (arith, e)) (λ v. lower_none low (v.term at).value (v.term part).value e)

low_bits : (low a : ℕ) → ((low ≡ 0) → ⊥) → a / 2 ^ 0 % 2 ^ (low - 1 - 0 + 1) ≡ a % 2 ^ low
low_bits low a ne = let n : low - 1 - 0 + 1 ≡ low = omega arith in let d : a / 2 ^ 0 ≡ a = omega arith in ap (λ k. a / 2 ^ 0 % 2 ^ k) n ∙ ap (λ k. k % 2 ^ low) d

pub lower_made : (g h i : Graph) (at low part under t : ℕ) → at < length g.terms → part < length g.terms → ((low ≡ 0) → ⊥) →
    Adds g h (low - 1 - 0 + 1) (λ v. (v.term at).value / 2 ^ 0 % 2 ^ (low - 1 - 0 + 1)) 0 1 under →
    Adds h i (width_in h part + width_in h under) (λ v. (v.term part).value * 2 ^ width_in h under + (v.term under).value) 0 1 t →
    Adds g i (width_in g part + low) (λ v. lower low (v.term at).value (v.term part).value) 0 2 t
lower_made g h i at low part under t al pl ne p q =
    let n : low - 1 - 0 + 1 ≡ low = omega arith in
    let wu : width_in h under ≡ low = p.typed.width ∙ n in
    let wp : width_in h part ≡ width_in g part = p.typed.kept part pl in
    let c = chain g h i (low - 1 - 0 + 1) (width_in h part + width_in h under) 0 0 1 1 under t _ _ (λ v. lower low (v.term at).value (v.term part).value) p q
    (λ v e.
    ap (λ k. (v.term part).value * 2 ^ k + (v.term under).value) wu
    ∙ ap (λ x. (v.term part).value * 2 ^ low + x) (value_of g h _ 0 1 under _ p v (q.grown v e) ∙ low_bits low (v.term at).value ne)) in
    weaken g i _ (width_in g part + low) (0 + 0) 0 (1 + 1) 2 t _ c (omega (arith, wu, wp)) (omega arith) (omega arith)

-- both sides of a part
pub mixed_made : (g h i : Graph) (at high low part left t : ℕ) → at < length g.terms → low ≤ high → high < width_in g at → width_in g part ≡ high - low + 1 →
    Adds g h (width_in g at - 1 - high + width_in g part) (λ v. upper (width_in g at) high (width_in g part) (v.term at).value (v.term part).value) 0 2 left →
    Adds h i (width_in h left + low) (λ v. lower low (v.term at).value (v.term left).value) 0 2 t →
    Adds g i (width_in g at) (λ v. mixed (width_in g at) high low (v.term at).value (v.term part).value) 0 4 t
mixed_made g h i at high low part left t al order lt is p q =
    let wl : width_in h left ≡ width_in g at - 1 - high + width_in g part = p.typed.width in
    let c = chain g h i _ (width_in h left + low) 0 0 2 2 left t _ _ (λ v. mixed (width_in g at) high low (v.term at).value (v.term part).value) p q
    (λ v e.
    ap (λ x. lower low (v.term at).value x) (value_of g h _ 0 2 left _ p v (q.grown v e) ∙ ap (λ n. upper (width_in g at) high n (v.term at).value (v.term part).value) is)) in
    weaken g i _ (width_in g at) (0 + 0) 0 (2 + 2) 4 t _ c (omega (arith, wl, is, order, lt)) (omega arith) (omega arith)

pub chosen_made : (g h i : Graph) (at high low value guard old t : ℕ) → value < length g.terms → guard < length g.terms → width_in g value ≡ high - low + 1 →
    Adds g h (high - low + 1) (λ v. (v.term at).value / 2 ^ low % 2 ^ (high - low + 1)) 0 1 old →
    Adds h i (width_in h value) (λ v. at_zero (v.term guard).value (v.term old).value (v.term value).value) (3 * width_in h value) 1 t →
    Adds g i (high - low + 1) (λ v. at_zero (v.term guard).value ((v.term at).value / 2 ^ low % 2 ^ (high - low + 1)) (v.term value).value) (3 * (high - low + 1)) 2 t
chosen_made g h i at high low value guard old t vl gl is p q =
    let wv : width_in h value ≡ high - low + 1 = p.typed.kept value vl ∙ is in
    let c = chain g h i (high - low + 1) (width_in h value) 0 (3 * width_in h value) 1 1 old t _ _ (λ v. at_zero (v.term guard).value ((v.term at).value / 2 ^ low % 2 ^ (high - low + 1)) (v.term value).value) p q
    (λ v e. ap (λ x. at_zero (v.term guard).value x (v.term value).value) (value_of g h _ 0 1 old _ p v (q.grown v e))) in
    weaken g i _ (high - low + 1) _ (3 * (high - low + 1)) (1 + 1) 2 t _ c wv (omega (arith, wv)) (omega arith)

pub changed_made : (g h i : Graph) (at high low value guard part t : ℕ) → at < length g.terms →
    Adds g h (high - low + 1) (λ v. at_zero (v.term guard).value ((v.term at).value / 2 ^ low % 2 ^ (high - low + 1)) (v.term value).value) (3 * (high - low + 1)) 2 part →
    Adds h i (width_in h at) (λ v. mixed (width_in h at) high low (v.term at).value (v.term part).value) 0 4 t →
    Adds g i (width_in g at) (λ v. changed (width_in g at) high low (v.term guard).value (v.term at).value (v.term value).value) (3 * (high - low + 1)) 6 t
changed_made g h i at high low value guard part t al p q =
    let wa : width_in h at ≡ width_in g at = p.typed.kept at al in
    let c = chain g h i _ (width_in h at) (3 * (high - low + 1)) 0 2 4 part t _ _ (λ v. changed (width_in g at) high low (v.term guard).value (v.term at).value (v.term value).value) p q
    (λ v e.
    ap (λ w. mixed w high low (v.term at).value (v.term part).value) wa
    ∙ ap (λ x. mixed (width_in g at) high low (v.term at).value x) (value_of g h _ _ 2 part _ p v (q.grown v e))) in
    weaken g i _ (width_in g at) (3 * (high - low + 1) + 0) (3 * (high - low + 1)) (2 + 4) 6 t _ c wa (omega arith) (omega arith)
