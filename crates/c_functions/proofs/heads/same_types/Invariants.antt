use Rattle.std.proofs.Common.{◌≡◌, ◌≤◌, ◌-◌, length, drop}
use Rattle.c_functions.specs.Heads.{same_types}
use Rattle.c_functions.proofs.heads.same_types.Given as goal

abbrev pub invariant-loop-i : goal.invariant-loop-i
invariant-loop-i l = (same_types l.a l.b ≡ same_types (drop l.i l.a) (drop l.i l.b)) × ((l.i ≤ length l.a) × (l.i ≤ length l.b))

abbrev pub decreases-loop-i : goal.decreases-loop-i
decreases-loop-i l = length l.a - l.i
