-- Sets of bits of signals, and tables of masks.
use Rattle.std.specs.Prelude.{◌≡◌, ◌<◌, ℕ, Bool, true, false, not, eqb, ◌&&◌, ◌||◌, List, slice_index, All}
use Rattle.std.specs.List.{list_any}
use Rattle.std.specs.Int.{bit_at}
use Rattle.bit_sets.specs.declared.Bits.{Bits}

-- whether bit k of a mask is 1
abbrev pub is_set : ℕ → ℕ → Bool
is_set mask k = eqb (bit_at mask k) 1

-- an entry of a set holds bit k of signal g
abbrev pub has : ℕ → ℕ → Bits → Bool
has g k bits = eqb bits.signal g && is_set bits.mask k

-- whether bit k of signal g is in a set
abbrev pub is_in : List Bits → ℕ → ℕ → Bool
is_in set g k = list_any (has g k) set

-- all its signals are below a number
abbrev pub IsWithin : ℕ → List Bits → Type 0
IsWithin n set = All (λ bits. bits.signal < n) set

-- a table in which no bit of any signal is set
abbrev pub IsEmpty : List ℕ → Type 0
IsEmpty table = (g : ℕ) → slice_index table g ≡ 0

-- whether a set has bits of a signal, or none of it
abbrev pub names : List Bits → ℕ → Bool
names set g = list_any (λ bits. eqb bits.signal g) set

-- a set was added to a table
pub record Fills (set : List Bits) (old new : List ℕ) : Type 0 where
  pub bits : (g k : ℕ) → is_set (slice_index new g) k ≡ (is_set (slice_index old g) k || is_in set g k)
  pub others : (g : ℕ) → names set g ≡ false → slice_index new g ≡ slice_index old g

-- all signals of a set were taken out of a table
pub record Clears (set : List Bits) (old new : List ℕ) : Type 0 where
  pub named : (g : ℕ) → names set g ≡ true → slice_index new g ≡ 0
  pub others : (g : ℕ) → names set g ≡ false → slice_index new g ≡ slice_index old g

-- the bits of a set, and no others, were taken out of a table
abbrev pub TakesOut : List Bits → List ℕ → List ℕ → Type 0
TakesOut set old new = (g k : ℕ) → is_set (slice_index new g) k ≡ (is_set (slice_index old g) k && not (is_in set g k))

-- what a set shares with a table
abbrev pub IsCommon : List ℕ → List Bits → List Bits → Type 0
IsCommon table set both = (g k : ℕ) → is_in both g k ≡ (is_in set g k && is_set (slice_index table g) k)

-- what a set has and a table lacks
abbrev pub IsWithout : List ℕ → List Bits → List Bits → Type 0
IsWithout table set rest = (g k : ℕ) → is_in rest g k ≡ (is_in set g k && not (is_set (slice_index table g) k))
