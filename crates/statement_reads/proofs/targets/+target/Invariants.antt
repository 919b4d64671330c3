use Rattle.std.proofs.Common.{take, length}
use Rattle.bit_sets.specs.Sets.{IsWithin}
use Rattle.flat_values.specs.Fits.{shapes_of}
use Rattle.statement_reads.specs.Reads.{AddsParts}
use Rattle.statement_reads.proofs.targets.+target.Given as goal

abbrev pub invariant-add_parts-loop-part : goal.invariant-add_parts-loop-part
invariant-add_parts-loop-part l = record {
  within : IsWithin (length l.signals) l.set.items;
  adds : AddsParts (shapes_of l.signals) (take l.part-index l.parts) l.fn.set.items l.set.items;
}
