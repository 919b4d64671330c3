-- Two texts, as lists of bytes.
use Rattle.std.specs.Prelude.{ℕ, List, Option, None, Some}
use Rattle.std.specs.Borrow.{Bor}

-- what stands on both sides of a cut, as plain lists
abbrev pub pieces_of : Option (Bor (List ℕ) × Bor (List ℕ)) → Option (List ℕ × List ℕ)
pieces_of None = None
pieces_of (Some p) = Some (p.0.now, p.1.now)
