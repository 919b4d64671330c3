use Rattle.unwind_words.proofs.Showing.{AreMembers}
use Rattle.unwind_words.proofs.mirror.mirror_rows.Given as goal

abbrev pub invariant-loop-place : goal.invariant-loop-place
invariant-loop-place l = AreMembers l.pair l.fn.net l.net l.rows l.members l.place l.shown.items
