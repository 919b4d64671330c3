use Rattle.std.proofs.Common.{◌≡◌, ℕ, List, ◌++◌, ◌≤◌, length, take, drop}
use Rattle.joint_ir.specs.Effects.{Effect}
use Rattle.joint_ir.specs.Runs.{draw_registers}
use Rattle.joint_view.specs.Halts.{unmeasured}
use Rattle.joint_view.specs.Conditions.{AreWords}
use Rattle.joint_view.proofs.choices.draw_registers.Given as goal

abbrev pub invariant-loop-k : goal.invariant-loop-k
invariant-loop-k l = record {
  drawn : (go : List ℕ → List ℕ → Effect) →
      unmeasured (draw_registers l.firsts l.widths (drop l.at l.choices) go)
      ≡ unmeasured (draw_registers (drop l.k l.firsts) (drop l.k l.widths) (drop l.next l.choices) (λ ns. go (l.numbers ++ ns)));
  words : AreWords (take l.k l.widths) l.numbers;
  within : l.at ≤ length l.choices → l.next ≤ length l.choices;
}
