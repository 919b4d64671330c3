-- Drivers as sets of bits: which has a bit that one before it has, and which bits none has.
use Rattle.std.specs.Prelude.{◌≡◌, ◌<◌, ℕ, zero, suc, Bool, true, false, List, [], ◌∷◌, length, take, slice_index, Option, Some, None}
use Rattle.std.specs.Global.{Vec}
use Rattle.std.specs.List.{list_any}
use Rattle.bit_sets.specs.declared.Bits.{Bits}
use Rattle.bit_sets.specs.Sets.{is_set, has, is_in}

-- a bit that two masks have
abbrev pub AreMeeting : ℕ → ℕ → Bool → Type 0
AreMeeting a b true = (k : ℕ) × (is_set a k ≡ true) × (is_set b k ≡ true)
AreMeeting a b false = (k : ℕ) → is_set a k ≡ true → is_set b k ≡ true → ⊥

-- a bit that one mask has and another lacks
abbrev pub IsMore : ℕ → ℕ → Bool → Type 0
IsMore a b true = (k : ℕ) × (is_set a k ≡ true) × (is_set b k ≡ false)
IsMore a b false = (k : ℕ) → is_set a k ≡ true → is_set b k ≡ true

-- a bit that a table and a set have
abbrev pub IsMeeting : List ℕ → List Bits → Bool → Type 0
IsMeeting table set true = (g : ℕ) × (k : ℕ) × (is_set (slice_index table g) k ≡ true) × (is_in set g k ≡ true)
IsMeeting table set false = (g k : ℕ) → is_set (slice_index table g) k ≡ true → is_in set g k ≡ true → ⊥

-- the j-th of some sets
abbrev pub set_of : List (Vec Bits) → ℕ → List Bits
set_of [] j = []
set_of (s ∷ rest) zero = s.items
set_of (s ∷ rest) (suc j) = set_of rest j

-- whether one of some sets has a bit
abbrev pub any_has : List (Vec Bits) → ℕ → ℕ → Bool
any_has sets g k = list_any (λ s. is_in s.items g k) sets

-- a table has the bits of some sets
abbrev pub IsFilled : List (Vec Bits) → List ℕ → Type 0
IsFilled sets table = (g k : ℕ) → is_set (slice_index table g) k ≡ any_has sets g k

-- set j has a bit which a set before it has
pub record SharesBefore (sets : List (Vec Bits)) (j : ℕ) : Type 0 where
  pub signal : ℕ
  pub bit : ℕ
  pub before : any_has (take j sets) signal bit ≡ true
  pub there : is_in (set_of sets j) signal bit ≡ true

-- none of the first n sets has a bit which a set before it has
abbrev pub HasNoSecond : List (Vec Bits) → ℕ → Type 0
HasNoSecond sets n = (j : ℕ) → j < n → SharesBefore sets j → ⊥

-- the first set that has a bit which a set before it has
abbrev pub IsSecond : List (Vec Bits) → Option ℕ → Type 0
IsSecond sets None = HasNoSecond sets (length sets)
IsSecond sets (Some j) = (j < length sets) × SharesBefore sets j × HasNoSecond sets j

-- whether the j-th of some masks has a bit
abbrev pub mask_has : List Bits → ℕ → ℕ → ℕ → Bool
mask_has [] j g k = false
mask_has (b ∷ rest) zero g k = has g k b
mask_has (b ∷ rest) (suc j) g k = mask_has rest j g k

-- mask j has a bit that no set has
pub record IsLacking (wanted : List Bits) (sets : List (Vec Bits)) (j : ℕ) : Type 0 where
  pub signal : ℕ
  pub bit : ℕ
  pub wants : mask_has wanted j signal bit ≡ true
  pub none : any_has sets signal bit ≡ false

-- the first n masks have no bits but those of the sets
abbrev pub LacksNone : List Bits → List (Vec Bits) → ℕ → Type 0
LacksNone wanted sets n = (j : ℕ) → j < n → IsLacking wanted sets j → ⊥

-- the first mask with a bit that no set has
abbrev pub IsMissing : List Bits → List (Vec Bits) → Option ℕ → Type 0
IsMissing wanted sets None = LacksNone wanted sets (length wanted)
IsMissing wanted sets (Some j) = (j < length wanted) × IsLacking wanted sets j × LacksNone wanted sets j
