use Rattle.std.proofs.Common.{take}
use Rattle.unwind_words.specs.Rows.{AreChosenRows}
use Rattle.unwind_words.proofs.choices.choose_rows.Given as goal

abbrev pub invariant-loop-k : goal.invariant-loop-k
invariant-loop-k l = AreChosenRows l.fn.net l.net l.guard (take l.k l.new) (take l.k l.old) l.rows.items
