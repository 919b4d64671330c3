-- The turns that are left of a loop.
use Rattle.std.proofs.Common.{ℕ}
use Rattle.joint_ir.specs.declared.stmt.TLoop.{TLoop, out-TLoop}
use Rattle.joint_ir.specs.Effects.{Onward}
use Rattle.joint_ir.specs.Steps.{Setting, Calls, rows_in}
use Rattle.joint_ir.specs.Statements.{after, turns, condition_value}
use Rattle.joint_lists.specs.Lists.{after_option}

abbrev pub loop_turns : Setting → Calls → TLoop → (n : ℕ) → Onward
loop_turns k calls l n =
    let o = out-TLoop l in
    turns n (λ s'. condition_value (rows_in k s') o.cond) (after k calls o.body.place o.body.node) (after_option k calls o.step) o.unwind
