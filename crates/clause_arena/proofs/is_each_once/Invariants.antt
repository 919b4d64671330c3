use Rattle.std.proofs.Common.{◌≡◌, ◌<◌, ℕ, suc, false, drop, get_or}
use Rattle.clause_arena.specs.declared.Lit.{Lit}
use Rattle.clause_arena.specs.Clause.{has}
use Rattle.clause_arena.proofs.is_each_once.Given as goal

-- no literal so far stands again after its place
abbrev pub invariant-loop-i : goal.invariant-loop-i
invariant-loop-i l = (k : ℕ) → k < l.i → (d : Lit) → has (drop (suc k) l.clause) (get_or l.clause k d) ≡ false
