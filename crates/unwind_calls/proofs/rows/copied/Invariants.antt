use Rattle.std.proofs.Common.{◌≡◌, take}
use Rattle.unwind_calls.proofs.rows.copied.Given as goal

-- the terms before this one are copied
abbrev pub invariant-loop-t : goal.invariant-loop-t
invariant-loop-t l = l.ids ≡ take l.t-index l.t-items
