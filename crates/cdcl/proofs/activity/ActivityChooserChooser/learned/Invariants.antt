use Rattle.std.proofs.Common.{◌≡◌, length, take}
use Rattle.cdcl.specs.Numbers.{numbers, all_gained}
use Rattle.cdcl.proofs.activity.ActivityChooserChooser.learned.Given as goal

abbrev pub invariant-loop-l : goal.invariant-loop-l
invariant-loop-l l = record {
  len : length l.self.ranks.numbers.items ≡ length l.initial.self.ranks.numbers.items;
  heard : numbers l.self.ranks.numbers.items l.self.step ≡ all_gained (numbers l.initial.self.ranks.numbers.items l.initial.self.step) (take l.l-index l.lits);
  same : l.self.ranks.present.items ≡ l.initial.self.ranks.present.items;
}
