use Rattle.std.proofs.Common.{◌≡◌, ◌++◌, ◌<◌, ◌^◌, ℕ, List, length, drop}
use Rattle.std.specs.List.{All}
use Rattle.joint_ir.specs.Views.{signal_words, view_words}
use Rattle.joint_view.proofs.mirror.signal_words.Given as goal

abbrev pub invariant-loop-signal : goal.invariant-loop-signal
invariant-loop-signal l = record {
  words : l.rows ++ signal_words (drop l.signal-index l.signal-items) l.registers l.inputs l.wires ≡ view_words l.flat l.view;
  few : All (λ (row : List ℕ). length row < 2 ^ 32) l.rows;
}
