use Rattle.std.proofs.Common.{◌≡◌, ℕ, List, ◌++◌, ◌≤◌, length, take, drop}
use Rattle.joint_ir.specs.Effects.{Effect, draw_all}
use Rattle.joint_view.specs.Halts.{unmeasured}
use Rattle.joint_view.specs.Conditions.{AreWords}
use Rattle.joint_view.proofs.choices.draw_all.Given as goal

abbrev pub invariant-loop-bits : goal.invariant-loop-bits
invariant-loop-bits l = record {
  drawn : (go : List ℕ → List ℕ → Effect) →
      unmeasured (draw_all l.widths (drop l.at l.choices) go) ≡ unmeasured (draw_all (drop l.bits-index l.widths) (drop l.next l.choices) (λ ns. go (l.numbers ++ ns)));
  words : AreWords (take l.bits-index l.widths) l.numbers;
  within : l.at ≤ length l.choices → l.next ≤ length l.choices;
}
