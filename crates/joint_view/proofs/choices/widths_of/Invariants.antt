use Rattle.std.proofs.Common.{◌≡◌, ◌++◌, drop}
use Rattle.joint_ir.specs.Views.{widths_of}
use Rattle.joint_view.proofs.choices.widths_of.Given as goal

abbrev pub invariant-loop-signal : goal.invariant-loop-signal
invariant-loop-signal l = l.widths ++ widths_of l.role (drop l.signal-index l.signals) ≡ widths_of l.role l.signals
