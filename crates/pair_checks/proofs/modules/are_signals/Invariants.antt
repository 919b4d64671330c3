use Rattle.std.proofs.Common.{take}
use Rattle.std.specs.Prelude.{All}
use Rattle.joint_ir.specs.WellFormed.{FitsSignal}
use Rattle.pair_checks.proofs.modules.are_signals.Given as goal

abbrev pub invariant-loop-signal : goal.invariant-loop-signal
invariant-loop-signal l = All FitsSignal (take l.signal-index l.signals)
