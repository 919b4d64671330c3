-- Who wins each game of a tournament between the variables of a set. The players of game k come from the places 2 k and
-- 2 k + 1; the places from the number of variables on are the variables' own (Knuth, The Art of Computer Programming,
-- volume 3, section 5.2.3).
use Rattle.std.specs.Prelude.{◌≡◌, ℕ, ◌+◌, ◌-◌, ◌*◌, ◌<◌, ◌≤◌, nat_lt, ◌==◌, ◌&&◌, ◌||◌, Bool, true, false, List, length, if◌then◌else◌, slice_index, slice_index_or, Option, Some, None}

-- the second of two variables has the greater number, or the same one and is lower
abbrev pub is_worse : List ℕ → ℕ → ℕ → Bool
is_worse numbers v w = nat_lt (slice_index numbers v) (slice_index numbers w) || ((slice_index numbers v == slice_index numbers w) && nat_lt w v)

-- who wins where two play, or one alone
abbrev pub winner : List ℕ → Option ℕ → Option ℕ → Option ℕ
winner numbers None right = right
winner numbers (Some v) None = Some v
winner numbers (Some v) (Some w) = if is_worse numbers v w then Some w else Some v

-- who comes from a place
abbrev pub player : List Bool → List (Option ℕ) → ℕ → Option ℕ
player present winners place =
    if nat_lt place (length winners)
    then slice_index_or winners place None
    else (if slice_index_or present (place - length winners) false then Some (place - length winners) else None)

-- the game's winner is the one of its two players
abbrev pub IsPlayed : List ℕ → List Bool → List (Option ℕ) → ℕ → Type 0
IsPlayed numbers present winners game = slice_index_or winners game None ≡ winner numbers (player present winners (2 * game)) (player present winners (2 * game + 1))

-- each game was played but one
abbrev pub ArePlayedBut : List ℕ → List Bool → List (Option ℕ) → ℕ → Type 0
ArePlayedBut numbers present winners other = (k : ℕ) → 0 < k → k < length winners → (k ≡ other → ⊥) → IsPlayed numbers present winners k

-- each game from one on was played
abbrev pub ArePlayedFrom : List ℕ → List Bool → List (Option ℕ) → ℕ → Type 0
ArePlayedFrom numbers present winners from = (k : ℕ) → 0 < k → from ≤ k → k < length winners → IsPlayed numbers present winners k

-- each game was played
abbrev pub ArePlayed : List ℕ → List Bool → List (Option ℕ) → Type 0
ArePlayed numbers present winners = (k : ℕ) → 0 < k → k < length winners → IsPlayed numbers present winners k
