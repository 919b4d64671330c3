-- The longest front of bytes that passes a test.
use Rattle.std.specs.Prelude.{◌≡◌, ℕ, ◌<◌, ◌≤◌, Bool, true, false, List, length, take, Option, None, Some}

-- how many bytes the longest front has that passes the test, if one does
abbrev pub IsLongestFront : (List ℕ → Bool) → List ℕ → Option ℕ → Type 0
IsLongestFront test bytes None = (m : ℕ) → m ≤ length bytes → test (take m bytes) ≡ false
IsLongestFront test bytes (Some n) = (n ≤ length bytes) × (test (take n bytes) ≡ true) × ((m : ℕ) → n < m → m ≤ length bytes → test (take m bytes) ≡ false)
