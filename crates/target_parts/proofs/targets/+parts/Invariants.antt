use Rattle.std.proofs.Common.{take}
use Rattle.target_parts.specs.Places.{AddsRow}
use Rattle.target_parts.proofs.targets.+parts.Given as goal

abbrev pub invariant-row_parts-loop-target : goal.invariant-row_parts-loop-target
invariant-row_parts-loop-target l = AddsRow l.signals (take l.target-index l.targets) l.fn.parts.items l.parts.items
