use Rattle.std.proofs.Common.{◌≡◌, ◌*◌, ◌≤◌}
use Rattle.list_checks.proofs.Counting.{first_gates}
use Rattle.list_checks.proofs.sums.term_gates.Given as goal

abbrev pub invariant-loop-k : goal.invariant-loop-k
invariant-loop-k l = (l.total ≡ first_gates l.terms l.k) × (l.total ≤ 272384 * l.k)
