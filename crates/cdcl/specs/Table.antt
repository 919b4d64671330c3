-- What contracts see of the watches.
use Rattle.std.specs.Prelude.{ℕ, List}
use Rattle.clause_arena.specs.declared.ClauseId.{ClauseId}
use Rattle.cdcl.specs.declared.watch.Pair.{Pair}

-- the ids under each literal, the pair of each clause, and how many literals of the trail were looked at
pub record Table : Type 0 where
  pub lists : List (List ClauseId)
  pub pairs : List Pair
  pub head : ℕ
