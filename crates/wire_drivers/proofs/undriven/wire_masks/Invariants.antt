use Rattle.std.proofs.Common.{◌≡◌, take, length}
use Rattle.bit_sets.specs.Sets.{IsWithin}
use Rattle.wire_drivers.specs.Undriven.{AreMasks}
use Rattle.wire_drivers.proofs.undriven.wire_masks.Given as goal

abbrev pub invariant-loop-g : goal.invariant-loop-g
invariant-loop-g l = record {
  within : IsWithin (length l.signals) l.masks.items;
  len : length l.masks.items ≡ l.g;
  masks : AreMasks (take l.g l.signals) l.masks.items;
}
