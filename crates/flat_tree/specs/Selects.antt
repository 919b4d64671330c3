-- What a select reads (IEEE 1364-2005, 5.2.1 and 5.2.2). Bits are counted from 0, the lowest. A bit out of range is the bit
-- at the same place of its site's number, and a word out of range is that number.
use Rattle.std.specs.Prelude.{ℕ, zero, suc, ◌+◌, ◌*◌, ◌^◌, ℤ, pos, negsuc, ◌+ℤ◌, Bool, false, if◌then◌else◌, nat_lt, nat_le}
use Rattle.std.specs.Int.{bit_at}

-- bit k of what is read, by its place in a word of w bits
abbrev pub bit_read : ℕ → ℕ → ℕ → ℕ → ℤ → ℕ
bit_read w signal site k (pos p) = if nat_lt p w then bit_at signal p else bit_at site k
bit_read w signal site k (negsuc p) = bit_at site k

-- n bits of a word of w bits from a place on
abbrev pub bits_read : ℕ → ℕ → ℕ → ℕ → ℤ → ℕ
bits_read zero w signal site first = 0
bits_read (suc n) w signal site first = bits_read n w signal site first + bit_read w signal site n (first +ℤ pos n) * 2 ^ n

-- the word at an index of so many words (4.9)
abbrev pub word_read : (ℕ → ℕ) → ℕ → ℕ → ℤ → ℕ
word_read words count site (pos i) = if nat_lt i count then words i else site
word_read words count site (negsuc i) = site

-- whether n bits from a place on all lie in a word of w bits
abbrev pub are_inside : ℕ → ℕ → ℤ → Bool
are_inside n w (pos p) = nat_le (p + n) w
are_inside n w (negsuc p) = false

-- whether there is a word at an index
abbrev pub is_word : ℕ → ℤ → Bool
is_word count (pos i) = nat_lt i count
is_word count (negsuc i) = false
