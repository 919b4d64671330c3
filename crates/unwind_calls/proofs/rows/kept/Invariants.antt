use Rattle.std.proofs.Common.{◌≡◌, take}
use Rattle.unwind_calls.proofs.rows.kept.Given as goal

-- the objects before this one are copied
abbrev pub invariant-loop-row : goal.invariant-loop-row
invariant-loop-row l = l.part.items ≡ take l.row-index l.row-items
