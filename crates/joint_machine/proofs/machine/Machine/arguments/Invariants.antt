use Rattle.std.proofs.Common.{◌≡◌, ℕ, List, ◌++◌, drop, take}
use Rattle.std.specs.Prelude.{ℤ, map}
use Rattle.joint_ir.specs.Effects.{Effect, with_values}
use Rattle.joint_ir.specs.States.{rows_of}
use Rattle.joint_machine.specs.Moments.{InTypes}
use Rattle.joint_machine.proofs.machine.Machine.arguments.Given as goal

-- the arguments so far are evaluated
abbrev pub invariant-loop-e : goal.invariant-loop-e
invariant-loop-e l = record {
  finds : (c : List ℕ) (go : List ℤ → Effect) → with_values (rows_of l.at.bounds.now.frames l.self.store) l.args c go ≡
      with_values (rows_of l.at.bounds.now.frames l.self.store) (drop l.e-index l.args) c (λ ns. go (l.numbers ++ ns));
  ranges : InTypes (map (λ e. e.ty) (take l.e-index l.args)) l.numbers;
}
