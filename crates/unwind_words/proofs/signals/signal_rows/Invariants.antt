use Rattle.unwind_words.proofs.Taken.{AreTaken}
use Rattle.unwind_words.proofs.signals.signal_rows.Given as goal

abbrev pub invariant-loop-signal : goal.invariant-loop-signal
invariant-loop-signal l = AreTaken l.fn.net l.net l.signals l.signal-index l.fn.registers l.fn.inputs l.fn.wires l.rows.items l.registers l.inputs l.wires
