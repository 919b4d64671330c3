-- What contracts see of an arena.
use Rattle.std.specs.Prelude.{ℕ, ◌≤◌}
use Rattle.clause_arena.specs.Clause.{Clauses}

-- The clause of each id that was given, and how much can be stored before memory is asked for again:
-- so many clauses, and so many literals in all of them together.
pub record Arena : Type 0 where
  pub clauses : Clauses
  pub spare_clauses : ℕ
  pub spare_lits : ℕ

-- so many clauses an arena names at most: each id is below the greatest number of 32 bits
abbrev pub MOST_CLAUSES : ℕ
MOST_CLAUSES = 4294967295

-- the second can store at least what the first can
pub record HasNoLessRoom (old new : Arena) : Type 0 where
  pub clauses : old.spare_clauses ≤ new.spare_clauses
  pub lits : old.spare_lits ≤ new.spare_lits
