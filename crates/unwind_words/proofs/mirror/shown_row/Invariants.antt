use Rattle.std.proofs.Common.{take}
use Rattle.unwind_words.specs.Rows.{IsShown}
use Rattle.unwind_words.proofs.mirror.shown_row.Given as goal

abbrev pub invariant-loop-k : goal.invariant-loop-k
invariant-loop-k l = IsShown l.fn.net l.net l.ty l.signal (take l.k l.words) l.ids
