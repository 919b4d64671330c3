-- The number of edges, part by part.
use Rattle.std.proofs.Common.{◌≡◌, ℕ, zero, suc, ◌+◌, ◌*◌, ◌^◌, ◌<◌, ◌≤◌, Bool, true, false, List, [], ◌∷◌, ◌++◌, length, take, drop, get_or, replicate, sym, ap, ◌∙◌, arith}
use Rattle.std.proofs.Math.Nat.{pow-succ'}
use Rattle.std.proofs.lemmas.List.{take_more}
use Rattle.std.proofs.Math.Seq.{length-take-le, take-length}
use Rattle.std.proofs.lemmas.List.{take-append-drop}
use Rattle.bits_core.specs.Word.{bit}
use Rattle.gate_net.specs.declared.net.Edge.{Edge}
use Rattle.gate_net.specs.Edge.{edge_value}
use Rattle.bitblast.specs.Circuit.{number_of}

pub bit_below : (b : Bool) → bit b ≤ 1
bit_below true = omega arith
bit_below false = omega arith

pub twice_pow : (k : ℕ) → 2 ^ (k + 1) ≡ 2 * 2 ^ k
twice_pow k = ap (λ i. 2 ^ i) (let e : k + 1 ≡ suc k = omega arith in e) ∙ pow-succ' 2 k

pub number_of-append : (a : ℕ → Bool) (xs ys : List Edge) → number_of a (xs ++ ys) ≡ number_of a xs + 2 ^ length xs * number_of a ys
number_of-append a [] ys = omega arith
number_of-append a (x ∷ xs) ys =
    let h = number_of-append a xs ys in
    let p = pow-succ' 2 (length xs) in
    let e : bit (edge_value a x) + 2 * number_of a (xs ++ ys) ≡ bit (edge_value a x) + 2 * (number_of a xs + 2 ^ length xs * number_of a ys) = ap (λ n. bit (edge_value a x) + 2 * n) h in
    let q : 2 ^ suc (length xs) * number_of a ys ≡ 2 * 2 ^ length xs * number_of a ys = ap (λ n. n * number_of a ys) p in
    e ∙ omega (arith, q)

pub number_of-push : (a : ℕ → Bool) (xs : List Edge) (e : Edge) → number_of a (xs ++ e ∷ []) ≡ number_of a xs + 2 ^ length xs * bit (edge_value a e)
number_of-push a xs e = number_of-append a xs (e ∷ []) ∙ ap (λ n. number_of a xs + 2 ^ length xs * n) (let h : bit (edge_value a e) + 2 * 0 ≡ bit (edge_value a e) = omega arith in h)

pub number_of-below : (a : ℕ → Bool) (xs : List Edge) → number_of a xs < 2 ^ length xs
number_of-below a [] = omega arith
number_of-below a (x ∷ xs) =
    let h = number_of-below a xs in
    let p = pow-succ' 2 (length xs) in
    let b = bit_below (edge_value a x) in
    omega arith

pub number_of-take_more : (a : ℕ → Bool) (xs : List Edge) (i : ℕ) (d : Edge) → i < length xs → number_of a (take (i + 1) xs) ≡ number_of a (take i xs) + 2 ^ i * bit (edge_value a (get_or xs i d))
number_of-take_more a xs i d h =
    let l : i ≤ length xs = omega arith in
    ap (number_of a) (take_more xs i d h) ∙ number_of-push a (take i xs) (get_or xs i d)
    ∙ ap (λ n. number_of a (take i xs) + 2 ^ n * bit (edge_value a (get_or xs i d))) (length-take-le i xs l)

-- a word and its highest bit
pub number_of-top : (a : ℕ → Bool) (xs : List Edge) (p : ℕ) (d : Edge) → length xs ≡ p + 1 → number_of a xs ≡ number_of a (take p xs) + 2 ^ p * bit (edge_value a (get_or xs p d))
number_of-top a xs p d e =
    let h : p < length xs = omega arith in
    ap (number_of a) (sym (take-length xs) ∙ ap (λ k. take k xs) e) ∙ number_of-take_more a xs p d h

pub number_of-replicate : (a : ℕ → Bool) (n : ℕ) (e : Edge) → number_of a (replicate n e) + bit (edge_value a e) ≡ 2 ^ n * bit (edge_value a e)
number_of-replicate a zero e = omega arith
number_of-replicate a (suc n) e =
    let h = number_of-replicate a n e in
    let p : 2 ^ suc n * bit (edge_value a e) ≡ 2 * 2 ^ n * bit (edge_value a e) = ap (λ k. k * bit (edge_value a e)) (pow-succ' 2 n) in
    omega (arith, h, p)

pub number_of-zeros : (a : ℕ → Bool) (n : ℕ) (e : Edge) → edge_value a e ≡ false → number_of a (replicate n e) ≡ 0
number_of-zeros a n e f =
    let g : bit (edge_value a e) ≡ 0 = ap bit f in
    let h = number_of-replicate a n e in
    let i : 2 ^ n * bit (edge_value a e) ≡ 2 ^ n * 0 = ap (λ k. 2 ^ n * k) g in
    omega arith

-- a word is its low bits and those from a place on
pub number_of-split : (a : ℕ → Bool) (xs : List Edge) (i : ℕ) → i ≤ length xs → number_of a xs ≡ number_of a (take i xs) + 2 ^ i * number_of a (drop i xs)
number_of-split a xs i h =
    ap (number_of a) (sym (take-append-drop i xs)) ∙ number_of-append a (take i xs) (drop i xs)
    ∙ ap (λ k. number_of a (take i xs) + 2 ^ k * number_of a (drop i xs)) (length-take-le i xs h)
