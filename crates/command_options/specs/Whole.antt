-- A text that is one token.
use Rattle.std.specs.Prelude.{ℕ, Bool, false, ◌==◌, ◌&&◌, Option, None, Some}

-- the longest token is of this kind and is the whole text of so many bytes
abbrev pub is_whole : (kind len : ℕ) → Option (ℕ × ℕ) → Bool
is_whole kind len None = false
is_whole kind len (Some p) = p.0 == kind && p.1 == len
