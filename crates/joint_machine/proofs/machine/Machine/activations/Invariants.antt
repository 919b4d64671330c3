use Rattle.std.proofs.Common.{◌≡◌, eqb, take, count_by}
use Rattle.joint_machine.proofs.machine.Machine.activations.Given as goal

abbrev pub invariant-loop-g : goal.invariant-loop-g
invariant-loop-g l = l.n ≡ count_by (λ g. eqb l.function g) (take l.g-index l.self.standing.items)
