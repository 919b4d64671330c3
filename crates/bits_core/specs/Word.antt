-- Words: numbers of a width, and the numbers that they stand for.
use Rattle.std.specs.Prelude.{ℕ, zero, suc, ◌+◌, ◌-◌, ◌*◌, ◌/◌, ◌%◌, ◌^◌, ◌<◌, ◌≤◌, Bool, true, false, if◌then◌else◌, nat_lt, ℤ, pos, negsuc}

-- what a word is seen as: so many bits, and the unsigned number that they are
pub record Word : Type 0 where
  pub width : ℕ
  pub value : ℕ

-- the word of a width with a value
abbrev pub word : ℕ → ℕ → Word
word w n = record { width = w; value = n }

-- a word has from 1 to 128 bits
abbrev pub IsWidth : ℕ → Type 0
IsWidth w = (0 < w) × (w ≤ 128)

-- what each word keeps
pub record IsWord (a : Word) : Type 0 where
  pub some : 0 < a.width
  pub within : a.width ≤ 128
  pub below : a.value < 2 ^ a.width

-- n below m read as a signed number: the upper half stands for the numbers below zero
abbrev pub read_signed : ℕ → ℕ → ℤ
read_signed m n = if nat_lt (n + n) m then pos n else negsuc (m - suc n)

-- a whole number modulo m
abbrev pub wrap : ℕ → ℤ → ℕ
wrap m (pos n) = n % m
wrap m (negsuc n) = m - suc (n % m)

-- a word of w bits read as a signed or an unsigned number
abbrev pub number : Bool → ℕ → ℕ → ℤ
number true w n = read_signed (2 ^ w) n
number false w n = pos n

-- a whole number modulo 2^w
abbrev pub modulo : ℕ → ℤ → ℕ
modulo w z = wrap (2 ^ w) z

-- a word of w bits at another width: extended by sign or by zeros, or cut
abbrev pub resized : ℕ → Bool → ℕ → ℕ → ℕ
resized to signed w n = modulo to (number signed w n)

-- a whole number divided by d, rounded down
abbrev pub floor_div : ℤ → ℕ → ℤ
floor_div (pos n) d = pos (n / d)
floor_div (negsuc n) d = negsuc (n / d)

-- 1 for true and 0 for false
abbrev pub bit : Bool → ℕ
bit true = 1
bit false = 0

-- the first at 0, and else the second
abbrev pub at_zero : {A : Type 0} → ℕ → A → A → A
at_zero zero x y = x
at_zero (suc n) x y = y

-- whether a whole number is negative
abbrev pub below_zero : ℤ → Bool
below_zero (pos n) = false
below_zero (negsuc n) = true

-- a word at another width
abbrev pub resized_word : ℕ → Bool → Word → Word
resized_word to signed a = word to (resized to signed a.width a.value)

-- the bits of a word from the high to the low, counted from 0
abbrev pub sliced : ℕ → ℕ → Word → Word
sliced high low a = word (high - low + 1) (a.value / 2 ^ low % 2 ^ (high - low + 1))

-- one word on the left of another
abbrev pub joined : Word → Word → Word
joined a b = word (a.width + b.width) (a.value * 2 ^ b.width + b.value)
