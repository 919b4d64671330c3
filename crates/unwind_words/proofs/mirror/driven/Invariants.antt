use Rattle.unwind_words.proofs.Showing.{AreInputs}
use Rattle.unwind_words.proofs.mirror.driven.Given as goal

abbrev pub invariant-loop-k : goal.invariant-loop-k
invariant-loop-k l = AreInputs l.pair l.fn.net l.net l.members l.inputs l.k l.ids
