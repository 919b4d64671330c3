use Rattle.std.proofs.Common.{◌≡◌, ℕ, ◌<◌, length}
use Rattle.clause_arena.specs.Clause.{clause_at}
use Rattle.res_log.specs.Origins.{book_of}
use Rattle.res_log.proofs.replay.inputs.Given as goal

abbrev pub invariant-loop-id : goal.invariant-loop-id
invariant-loop-id l = (length l.book ≡ l.id) × ((j : ℕ) → j < l.id → clause_at l.book j ≡ book_of l.arena.clauses l.table.items j)
