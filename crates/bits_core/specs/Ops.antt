-- What the operations on words give.
use Rattle.std.specs.Prelude.{ℕ, ◌+◌, ◌-◌, ◌*◌, ◌%◌, ◌^◌, Bool, true, false, nat_lt, nat_eq, pos, ◌-ℤ◌, neg_ℤ, int_lt, int_div, int_rem, bit_and, bit_or, bit_xor, count_ones}
use Rattle.bits_core.specs.Word.{Word, word, number, modulo, floor_div, bit, at_zero}
use Rattle.bits_core.specs.declared.op.Op1.{Op1}
use Rattle.bits_core.specs.declared.op.Op1.TheVariants.{Not, Neg, RedAnd, RedOr, RedXor}
use Rattle.bits_core.specs.declared.op.Op2.{Op2}
use Rattle.bits_core.specs.declared.op.Op2.TheVariants.{And, Or, Xor, Add, Sub, Mul, DivU, DivS, RemU, RemS, Shl, ShrU, ShrS, Eq, LtU, LtS}

-- the quotient, cut towards zero; 0 for a zero divisor
abbrev pub quotient : Bool → ℕ → ℕ → ℕ → ℕ
quotient s w x y = at_zero y 0 (modulo w (int_div (number s w x) (number s w y)))

-- what is left, with the sign of the first; 0 for a zero divisor
abbrev pub remainder : Bool → ℕ → ℕ → ℕ → ℕ
remainder s w x y = at_zero y 0 (modulo w (int_rem (number s w x) (number s w y)))

-- whether the first word is the smaller, both read as signed or as unsigned numbers
abbrev pub less : Bool → ℕ → ℕ → ℕ → Bool
less s w x y = int_lt (number s w x) (number s w y)

-- a word divided by 2^y and rounded down: what comes in from the left is the sign of a signed word, and zeros else
abbrev pub shifted_right : Bool → ℕ → ℕ → ℕ → ℕ
shifted_right s w x y = modulo w (floor_div (number s w x) (2 ^ y))

-- What an operation on one word of w bits gives: each bit flipped, the negative modulo 2^w, or one bit that says
-- whether all bits are 1, some bit is 1, or an odd number of bits is 1.
abbrev pub value1 : Op1 → ℕ → ℕ → ℕ
value1 Not w x = 2 ^ w - 1 - x
value1 Neg w x = modulo w (neg_ℤ (pos x))
value1 RedAnd w x = bit (nat_eq x (2 ^ w - 1))
value1 RedOr w x = bit (nat_lt 0 x)
value1 RedXor w x = bit (nat_eq (count_ones x % 2) 1)

-- What an operation on two words of w bits gives: sums, products and shifts are cut to w bits, and comparisons give 1
-- or 0. The second operand of a shift is read as an unsigned number, however great.
abbrev pub value2 : Op2 → ℕ → ℕ → ℕ → ℕ
value2 And w x y = bit_and x y
value2 Or w x y = bit_or x y
value2 Xor w x y = bit_xor x y
value2 Add w x y = (x + y) % 2 ^ w
value2 Sub w x y = modulo w (pos x -ℤ pos y)
value2 Mul w x y = (x * y) % 2 ^ w
value2 DivU w x y = quotient false w x y
value2 DivS w x y = quotient true w x y
value2 RemU w x y = remainder false w x y
value2 RemS w x y = remainder true w x y
value2 Shl w x y = (x * 2 ^ y) % 2 ^ w
value2 ShrU w x y = shifted_right false w x y
value2 ShrS w x y = shifted_right true w x y
value2 Eq w x y = bit (nat_eq x y)
value2 LtU w x y = bit (less false w x y)
value2 LtS w x y = bit (less true w x y)

-- the width of what an operation on one word of w bits gives
abbrev pub width1 : Op1 → ℕ → ℕ
width1 Not w = w
width1 Neg w = w
width1 RedAnd w = 1
width1 RedOr w = 1
width1 RedXor w = 1

-- the width of what an operation on two words of w bits gives: one bit for a comparison
abbrev pub width2 : Op2 → ℕ → ℕ
width2 And w = w
width2 Or w = w
width2 Xor w = w
width2 Add w = w
width2 Sub w = w
width2 Mul w = w
width2 DivU w = w
width2 DivS w = w
width2 RemU w = w
width2 RemS w = w
width2 Shl w = w
width2 ShrU w = w
width2 ShrS w = w
width2 Eq w = 1
width2 LtU w = 1
width2 LtS w = 1

-- the word that an operation gives
abbrev pub word1 : Op1 → Word → Word
word1 op a = word (width1 op a.width) (value1 op a.width a.value)

-- what an operation on two words gives, as a word; both are taken at the width of the first
abbrev pub word2 : Op2 → Word → Word → Word
word2 op a b = word (width2 op a.width) (value2 op a.width a.value b.value)
