use Rattle.std.proofs.Common.{◌≡◌, ℕ, length}
use Rattle.clause_arena.specs.Clause.{clause_at}
use Rattle.res_log.specs.Log.{book_before}
use Rattle.res_log.proofs.replay.book_after.Given as goal

abbrev pub invariant-loop-k : goal.invariant-loop-k
invariant-loop-k l = (length l.book ≡ length l.arena.clauses) × ((id : ℕ) → clause_at l.book id ≡ book_before l.arena.clauses l.log l.k id)
