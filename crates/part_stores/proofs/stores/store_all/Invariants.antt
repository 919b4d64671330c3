use Rattle.std.proofs.Common.{◌≡◌, ◌-◌, take, length}
use Rattle.flat_values.specs.Fits.{shapes_of}
use Rattle.part_stores.specs.Stores.{seen, all_bits, AreStored}
use Rattle.part_stores.proofs.stores.store_all.Given as goal

abbrev pub invariant-loop-part : goal.invariant-loop-part
invariant-loop-part l = record {
  top : l.top ≡ all_bits l.parts - all_bits (take l.part-index l.parts);
  stored : AreStored (length l.signals) (seen (shapes_of l.signals)) l.starts l.fn.words l.words (take l.part-index l.parts) l.value.0 l.top l.guard.0 l.fn.terms l.terms;
}
