use Rattle.std.proofs.Common.{◌≡◌, eqb, take, count_by}
use Rattle.unwind_calls.proofs.entries.activations.Given as goal

abbrev pub invariant-loop-g : goal.invariant-loop-g
invariant-loop-g l = l.n ≡ count_by (λ g. eqb l.function g) (take l.g-index l.standing)
