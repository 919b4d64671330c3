use Rattle.std.proofs.Common.{◌≡◌, ◌≤◌, ◌<◌, ℕ, Option, true, get_or}
use Rattle.std.specs.Option.{is_some}
use Rattle.clause_arena.specs.declared.ClauseId.{ClauseId}
use Rattle.cdcl.specs.Held.{reasons_of}
use Rattle.cdcl.proofs.learn.level_end.Given as goal

abbrev pub invariant-loop-k : goal.invariant-loop-k
invariant-loop-k l = (j : ℕ) (o : Option ClauseId) → l.from ≤ j → j < l.k → is_some (get_or (reasons_of l.trail) j o) ≡ true
