-- Words made of the edges of others: their numbers.
use Rattle.std.proofs.Common.{◌≡◌, ℕ, ◌+◌, ◌-◌, ◌*◌, ◌/◌, ◌%◌, ◌^◌, ◌<◌, ◌≤◌, Bool, true, false, zero, suc, inl, inr, List, [], ◌∷◌, ◌++◌, length, length-append, take, drop, get_or, replicate, refl, sym, ap, ◌∙◌, subst, arith}
use Rattle.std.specs.Prelude.{nat_eq}
use Rattle.bitblast.proofs.Reducing.{halved}
use Rattle.std.proofs.Math.Nat.{mod-eq_of_lt}
use Rattle.std.proofs.Math.Seq.{length-take-le}
use Rattle.std.proofs.lemmas.List.{length-drop}
use Rattle.std.proofs.lemmas.List.Elements.{All-append, All-push, All-replicate}
use Rattle.std.proofs.lemmas.Nat.{pow-add, div-mul-add, mod-mul-add}
use Rattle.bits_core.specs.Word.{Word, bit, read_signed, resized, wrap}
use Rattle.bits_core.proofs.Laws.{cut_pow, extend_high, pow_le, signed_low}
use Rattle.gate_net.specs.declared.net.Edge.{Edge}
use Rattle.gate_net.specs.declared.net.Node.{Node}
use Rattle.gate_net.specs.Edge.{edge_value}
use Rattle.gate_net.specs.Net.{IsValuation}
use Rattle.bitblast.specs.Circuit.{AreBelow, number_of}
use Rattle.bitblast.proofs.Numbers.{number_of-append, number_of-below, number_of-push, number_of-replicate, number_of-split, twice_pow}
use Rattle.bitblast.proofs.ShiftSteps.{top_high, top_low}

-- the low bits of a constant are made, and the rest is left
pub record IsConstantSoFar (net : List Node) (w : Word) (k rest : ℕ) (es : List Edge) : Type 0 where
  pub bits : length es ≡ k
  pub there : AreBelow (length net) es
  pub value : (a : ℕ → Bool) → IsValuation net a → number_of a es + 2 ^ k * rest ≡ w.value

low_bits : (a : ℕ → Bool) (xs : List Edge) (i : ℕ) → i ≤ length xs → number_of a (take i xs) < 2 ^ i
low_bits a xs i h = subst (λ k. number_of a (take i xs) < 2 ^ k) (length-take-le i xs h) (number_of-below a (take i xs))

turned_split : (a : ℕ → Bool) (xs : List Edge) (i : ℕ) → i ≤ length xs → number_of a xs ≡ number_of a (drop i xs) * 2 ^ i + number_of a (take i xs)
turned_split a xs i h = number_of-split a xs i h ∙ (let e : number_of a (take i xs) + 2 ^ i * number_of a (drop i xs) ≡ number_of a (drop i xs) * 2 ^ i + number_of a (take i xs) = omega arith in e)

pub number_of-take : (a : ℕ → Bool) (xs : List Edge) (i : ℕ) → i ≤ length xs → number_of a (take i xs) ≡ number_of a xs % 2 ^ i
number_of-take a xs i h = sym (ap (λ k. k % 2 ^ i) (turned_split a xs i h) ∙ mod-mul-add (number_of a (drop i xs)) (2 ^ i) (number_of a (take i xs)) (low_bits a xs i h))

pub number_of-from : (a : ℕ → Bool) (xs : List Edge) (i : ℕ) → i ≤ length xs → number_of a (drop i xs) ≡ number_of a xs / 2 ^ i
number_of-from a xs i h = sym (ap (λ k. k / 2 ^ i) (turned_split a xs i h) ∙ div-mul-add (number_of a (drop i xs)) (2 ^ i) (number_of a (take i xs)) (low_bits a xs i h))

odd_bit : (r : ℕ) → bit (nat_eq (r % 2) 1) ≡ r % 2
odd_bit r = elim (halved r) [ inl e ↦ (rw e refl) | inr e ↦ (rw e refl) ]

constant-push : (k n r v : ℕ) → n + 2 ^ k * r ≡ v → (n + 2 ^ k * (r % 2)) + 2 ^ (k + 1) * (r / 2) ≡ v
constant-push k n r v e =
    let g : 2 ^ (k + 1) * (r / 2) ≡ 2 * 2 ^ k * (r / 2) = ap (λ m. m * (r / 2)) (twice_pow k) in
    let h : r ≡ 2 * (r / 2) + r % 2 = omega arith in
    let i : 2 ^ k * r ≡ 2 ^ k * (2 * (r / 2) + r % 2) = ap (λ m. 2 ^ k * m) h in
    omega (arith, g, i, e)

pub constant_step : (net : List Node) (w : Word) (k r : ℕ) (es items : List Edge) (e : Edge) → e.node < length net
    → ((a : ℕ → Bool) → IsValuation net a → edge_value a e ≡ nat_eq (r % 2) 1) → items ≡ es ++ e ∷ []
    → IsConstantSoFar net w k r es → IsConstantSoFar net w (k + 1) (r / 2) items
constant_step net w k r es items e h f t x = record {
  bits = ap length t ∙ length-append es (e ∷ []) ∙ ap (λ i. i + 1) x.bits;
  there = subst (AreBelow (length net)) (sym t) (All-push (λ i. i.node < length net) es e x.there h);
  value = λ a v.
      ap (λ i. number_of a i + 2 ^ (k + 1) * (r / 2)) t ∙ ap (λ i. i + 2 ^ (k + 1) * (r / 2)) (number_of-push a es e)
      ∙ ap (λ i. (number_of a es + 2 ^ i * bit (edge_value a e)) + 2 ^ (k + 1) * (r / 2)) x.bits
      ∙ ap (λ i. (number_of a es + 2 ^ k * i) + 2 ^ (k + 1) * (r / 2)) (ap bit (f a v) ∙ odd_bit r)
      ∙ constant-push k (number_of a es) r w.value (x.value a v);
}

none_left : (m n r v : ℕ) → v < m → n + m * r ≡ v → n ≡ v
none_left m n zero v h e = omega arith
none_left m n (suc r) v h e = let g : m * suc r ≡ m * r + m = omega arith in absurd (omega arith)

pub constant_value : (net : List Node) (w : Word) (k r : ℕ) (es : List Edge) → k ≡ w.width → w.value < 2 ^ w.width → IsConstantSoFar net w k r es
    → (a : ℕ → Bool) → IsValuation net a → number_of a es ≡ w.value
constant_value net w k r es e h x a v =
    none_left (2 ^ w.width) (number_of a es) r w.value h (subst (λ i. number_of a es + 2 ^ i * r ≡ w.value) e (x.value a v))

pub join_value : (a : ℕ → Bool) (xs ys none ds es : List Edge) → none ≡ [] → ds ≡ none ++ ys → es ≡ ds ++ xs → number_of a es ≡ number_of a xs * 2 ^ length ys + number_of a ys
join_value a xs ys none ds es e f g =
    ap (number_of a) (g ∙ ap (λ k. k ++ xs) (f ∙ ap (λ k. k ++ ys) e)) ∙ number_of-append a ys xs
    ∙ (let h : number_of a ys + 2 ^ length ys * number_of a xs ≡ number_of a xs * 2 ^ length ys + number_of a ys = omega arith in h)

pub cut_value : (a : ℕ → Bool) (xs es : List Edge) (to : ℕ) (s : Bool) → to ≤ length xs → es ≡ take to xs → number_of a es ≡ resized to s (length xs) (number_of a xs)
cut_value a xs es to true h e = ap (number_of a) e ∙ number_of-take a xs to h ∙ cut_pow to (length xs) (number_of a xs) h (number_of-below a xs)
cut_value a xs es to false h e = ap (number_of a) e ∙ number_of-take a xs to h

pub extended_there : (n : ℕ) (xs es : List Edge) (to : ℕ) (d : Edge) → 0 < length xs → es ≡ xs ++ replicate (to - length xs) (get_or xs (length xs - 1) d) → AreBelow n xs → AreBelow n es
extended_there n xs es to d h e b =
    subst (AreBelow n) (sym e) (All-append (λ (i : Edge). i.node < n) xs _ b (All-replicate (λ (i : Edge). i.node < n) (to - length xs) (get_or xs (length xs - 1) d) (b (length xs - 1) d (omega arith))))

extended_number : (a : ℕ → Bool) (xs es : List Edge) (to : ℕ) (f : Edge) → length xs ≤ to → es ≡ xs ++ replicate (to - length xs) f
    → number_of a es + 2 ^ length xs * bit (edge_value a f) ≡ number_of a xs + 2 ^ to * bit (edge_value a f)
extended_number a xs es to f h e =
    let r = number_of-replicate a (to - length xs) f in
    let n : number_of a es ≡ number_of a xs + 2 ^ length xs * number_of a (replicate (to - length xs) f) = ap (number_of a) e ∙ number_of-append a xs (replicate (to - length xs) f) in
    let w : to ≡ length xs + (to - length xs) = omega arith in
    let m : 2 ^ to * bit (edge_value a f) ≡ 2 ^ length xs * 2 ^ (to - length xs) * bit (edge_value a f) = ap (λ k. k * bit (edge_value a f)) (ap (λ k. 2 ^ k) w ∙ pow-add 2 (length xs) (to - length xs)) in
    let q : 2 ^ length xs * (number_of a (replicate (to - length xs) f) + bit (edge_value a f)) ≡ 2 ^ length xs * (2 ^ (to - length xs) * bit (edge_value a f)) = ap (λ k. 2 ^ length xs * k) r in
    omega (arith, n, m, q)

sign_value : (m k x e : ℕ) (b : Bool) → k ≤ m → x < k → (b ≡ false → x + x < k) → (b ≡ true → k ≤ x + x) → e + k * bit b ≡ x + m * bit b → e ≡ wrap m (read_signed k x)
sign_value m k x e true l h f g i =
    let j : e ≡ (m - 1) - ((k - 1) - x) = omega arith in
    j ∙ extend_high m k x (m - 1) (k - 1) (omega arith) (omega arith) l h (g refl)
sign_value m k x e false l h f g i =
    let j : e ≡ x = omega arith in
    let lt : x < m = omega arith in
    j ∙ sym (ap (wrap m) (signed_low k x (f refl)) ∙ mod-eq_of_lt lt)

pub extended_sign : (a : ℕ → Bool) (xs es : List Edge) (to : ℕ) (d : Edge) (s : Bool) → 0 < length xs → s ≡ true → length xs ≤ to → es ≡ xs ++ replicate (to - length xs) (get_or xs (length xs - 1) d)
    → number_of a es ≡ resized to s (length xs) (number_of a xs)
extended_sign a xs es to d s some t l e =
    sign_value (2 ^ to) (2 ^ length xs) (number_of a xs) (number_of a es) (edge_value a (get_or xs (length xs - 1) d)) (pow_le (length xs) to l) (number_of-below a xs)
    (top_low a xs d some) (top_high a xs d some) (extended_number a xs es to (get_or xs (length xs - 1) d) l e)
    ∙ ap (λ b. resized to b (length xs) (number_of a xs)) (sym t)

pub extended_zeros : (a : ℕ → Bool) (xs es : List Edge) (to : ℕ) (f : Edge) (s : Bool) → s ≡ false → length xs ≤ to → es ≡ xs ++ replicate (to - length xs) f → edge_value a f ≡ false
    → number_of a es ≡ resized to s (length xs) (number_of a xs)
extended_zeros a xs es to f s t l e z =
    let b : bit (edge_value a f) ≡ 0 = ap bit z in
    let n = extended_number a xs es to f l e in
    let p : 2 ^ length xs * bit (edge_value a f) ≡ 2 ^ length xs * 0 = ap (λ k. 2 ^ length xs * k) b in
    let q : 2 ^ to * bit (edge_value a f) ≡ 2 ^ to * 0 = ap (λ k. 2 ^ to * k) b in
    let same : number_of a es ≡ number_of a xs = omega (arith, n, p, q) in
    let le = pow_le (length xs) to l in
    let lt = number_of-below a xs in
    let small : number_of a xs < 2 ^ to = omega arith in
    same ∙ sym (mod-eq_of_lt small) ∙ ap (λ i. resized to i (length xs) (number_of a xs)) (sym t)

pub slice_value : (a : ℕ → Bool) (xs none es : List Edge) (h l : ℕ) → none ≡ [] → es ≡ none ++ take (h + 1 - l) (drop l xs) → l ≤ h → h < length xs
    → number_of a es ≡ number_of a xs / 2 ^ l % 2 ^ (h - l + 1)
slice_value a xs none es h l e f p q =
    let w : h + 1 - l ≡ h - l + 1 = omega arith in
    let d = length-drop l xs in
    let t : h - l + 1 ≤ length (drop l xs) = omega arith in
    ap (number_of a) (f ∙ ap (λ k. k ++ take (h + 1 - l) (drop l xs)) e ∙ ap (λ k. take k (drop l xs)) w)
    ∙ number_of-take a (drop l xs) (h - l + 1) t ∙ ap (λ k. k % 2 ^ (h - l + 1)) (number_of-from a xs l (omega arith))
