use Rattle.std.proofs.Common.{take, length}
use Rattle.bit_sets.specs.Sets.{IsWithin}
use Rattle.flat_values.specs.Fits.{shapes_of}
use Rattle.statement_reads.specs.Reads.{AddsBody, AddsItems}
use Rattle.statement_reads.proofs.statements.+reads.Given as goal

abbrev pub invariant-add_body-loop-stmt : goal.invariant-add_body-loop-stmt
invariant-add_body-loop-stmt l = record {
  within : IsWithin (length l.signals) l.set.items;
  adds : AddsBody (shapes_of l.signals) (take l.stmt-index l.body) l.fn.set.items l.set.items;
}

abbrev pub invariant-add_items-loop-item : goal.invariant-add_items-loop-item
invariant-add_items-loop-item l = record {
  within : IsWithin (length l.signals) l.set.items;
  adds : AddsItems (shapes_of l.signals) (take l.item-index l.items) l.fn.set.items l.set.items;
}
