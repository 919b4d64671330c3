use Rattle.std.proofs.Common.{◌≡◌, drop}
use Rattle.clause_arena.specs.Clause.{clause_at}
use Rattle.res_log.specs.Log.{chain}
use Rattle.res_log.proofs.replay.chain_result.Given as goal

abbrev pub invariant-loop-link : goal.invariant-loop-link
invariant-loop-link l =
    chain (clause_at l.book) (drop l.link-index l.rest) l.current.items ≡ chain (clause_at l.book) l.rest l.first
