use Rattle.std.proofs.Common.{take}
use Rattle.unwind_module.specs.Words.{AreChosen}
use Rattle.unwind_words.proofs.choices.choose_all.Given as goal

abbrev pub invariant-loop-k : goal.invariant-loop-k
invariant-loop-k l = AreChosen l.fn.net l.net l.guard (take l.k l.new) (take l.k l.old) l.ids
