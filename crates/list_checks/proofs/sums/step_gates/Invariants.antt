use Rattle.std.proofs.Common.{◌≡◌, ◌*◌, ◌≤◌}
use Rattle.list_checks.proofs.Counting.{first_steps}
use Rattle.list_checks.proofs.sums.step_gates.Given as goal

abbrev pub invariant-loop-k : goal.invariant-loop-k
invariant-loop-k l = (l.total ≡ first_steps l.terms l.list l.k) × (l.total ≤ 136 * l.k)
