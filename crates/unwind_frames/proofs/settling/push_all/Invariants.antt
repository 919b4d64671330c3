use Rattle.std.proofs.Common.{◌≡◌, ◌++◌, take}
use Rattle.unwind_frames.proofs.settling.push_all.Given as goal

abbrev pub invariant-loop-t : goal.invariant-loop-t
invariant-loop-t l = l.ids ≡ l.fn.ids ++ take l.t-index l.more
