-- Operations bit by bit: a word and one more bit on its left.
use Rattle.std.proofs.Common.{◌≡◌, ℕ, ◌+◌, ◌*◌, ◌^◌, ◌<◌, Bool, true, false, ◌&&◌, List, length, take, not, refl, sym, ap, ◌∙◌, arith}
use Rattle.std.specs.Prelude.{if◌then◌else◌}
use Rattle.gate_net.specs.declared.net.Edge.{Edge}
use Rattle.bitblast.specs.Circuit.{AreBelow, number_of}
use Rattle.bitblast.proofs.Numbers.{twice_pow}
use Rattle.std.proofs.lemmas.Nat.{and_block, or_block, xor_block}
use Rattle.bits_core.specs.Word.{bit}
use Rattle.bitblast.specs.declared.bitwise.Bitwise.{Bitwise}
use Rattle.bitblast.specs.declared.bitwise.Bitwise.TheVariants.{And, Or, Xor}
use Rattle.bitblast.specs.Bitwise.{bit_result, word_result}

one_bit : (op : Bitwise) (p q : Bool) → word_result op (bit p) (bit q) ≡ bit (bit_result op p q)
one_bit And true true = refl
one_bit And true false = refl
one_bit And false true = refl
one_bit And false false = refl
one_bit Or true true = refl
one_bit Or true false = refl
one_bit Or false true = refl
one_bit Or false false = refl
one_bit Xor true true = refl
one_bit Xor true false = refl
one_bit Xor false true = refl
one_bit Xor false false = refl

block : (op : Bitwise) (k a b r s : ℕ) → r < 2 ^ k → s < 2 ^ k → word_result op (a * 2 ^ k + r) (b * 2 ^ k + s) ≡ word_result op a b * 2 ^ k + word_result op r s
block And k a b r s h i = and_block k a b r s h i
block Or k a b r s h i = or_block k a b r s h i
block Xor k a b r s h i = xor_block k a b r s h i

pub word_result-push : (op : Bitwise) (k x y : ℕ) (p q : Bool) → x < 2 ^ k → y < 2 ^ k → word_result op (x + 2 ^ k * bit p) (y + 2 ^ k * bit q) ≡ word_result op x y + 2 ^ k * bit (bit_result op p q)
word_result-push op k x y p q h i =
    let turn : (n : ℕ) (b : ℕ) → n + 2 ^ k * b ≡ b * 2 ^ k + n = λ n b. omega arith in
    ap (λ n. word_result op n (y + 2 ^ k * bit q)) (turn x (bit p)) ∙ ap (word_result op (bit p * 2 ^ k + x)) (turn y (bit q))
    ∙ block op k (bit p) (bit q) x y h i ∙ ap (λ n. n * 2 ^ k + word_result op x y) (one_bit op p q) ∙ sym (turn (word_result op x y) (bit (bit_result op p q)))

-- so many bits of a word turned
pub record IsInverted (xs : List Edge) (i : ℕ) (ys : List Edge) : Type 0 where
  pub bits : length ys ≡ i
  pub there : (nodes : ℕ) → AreBelow nodes xs → AreBelow nodes ys
  pub value : (a : ℕ → Bool) → number_of a ys + number_of a (take i xs) + 1 ≡ 2 ^ i

pub bit-not : (p q : Bool) → p ≡ not q → bit p + bit q ≡ 1
bit-not p true e = ap (λ x. bit x + 1) e
bit-not p false e = ap (λ x. bit x + 0) e

pub inverted-push : (k x y p q : ℕ) → x + y + 1 ≡ 2 ^ k → p + q ≡ 1 → (x + 2 ^ k * p) + (y + 2 ^ k * q) + 1 ≡ 2 ^ (k + 1)
inverted-push k x y p q e f =
    let g = twice_pow k in
    let h : 2 ^ k * (p + q) ≡ 2 ^ k * 1 = ap (λ m. 2 ^ k * m) f in
    omega (arith, h, g)

pub masked-push : (k x : ℕ) (p q : Bool) → bit q * (x + 2 ^ k * bit p) ≡ bit q * x + 2 ^ k * bit (p && q)
masked-push k x true true = omega arith
masked-push k x true false = omega arith
masked-push k x false true = omega arith
masked-push k x false false = omega arith

pub choose-push : (k x y : ℕ) (c p q : Bool) → (if c then x + 2 ^ k * bit p else y + 2 ^ k * bit q) ≡ (if c then x else y) + 2 ^ k * bit (if c then p else q)
choose-push k x y true p q = refl
choose-push k x y false p q = refl

pub adder-push : (k n x y c s i o p q : ℕ) → n + 2 ^ k * c ≡ x + y + i → s + 2 * o ≡ p + q + c → (n + 2 ^ k * s) + 2 ^ (k + 1) * o ≡ (x + 2 ^ k * p) + (y + 2 ^ k * q) + i
adder-push k n x y c s i o p q e f =
    let g = twice_pow k in
    let h : 2 ^ (k + 1) * o ≡ 2 * 2 ^ k * o = ap (λ m. m * o) g in
    let j : 2 ^ k * (s + 2 * o) ≡ 2 ^ k * (p + q + c) = ap (λ m. 2 ^ k * m) f in
    omega (arith, h, j)
