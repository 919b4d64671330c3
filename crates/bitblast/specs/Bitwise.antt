-- Operations bit by bit.
use Rattle.std.specs.Prelude.{ℕ, Bool, ◌&&◌, ◌||◌, bit_and, bit_or, bit_xor}
use Rattle.bitblast.specs.declared.bitwise.Bitwise.{Bitwise}
use Rattle.bitblast.specs.declared.bitwise.Bitwise.TheVariants.{And, Or, Xor}
use Rattle.bitblast.specs.Circuit.{differ}

-- the gates of one bit
abbrev pub bit_gates : Bitwise → ℕ
bit_gates And = 1
bit_gates Or = 1
bit_gates Xor = 3

-- what an operation gives on one bit of each word
abbrev pub bit_result : Bitwise → Bool → Bool → Bool
bit_result And p q = p && q
bit_result Or p q = p || q
bit_result Xor p q = differ p q

-- what an operation gives on two words: the same at each bit
abbrev pub word_result : Bitwise → ℕ → ℕ → ℕ
word_result And x y = bit_and x y
word_result Or x y = bit_or x y
word_result Xor x y = bit_xor x y
