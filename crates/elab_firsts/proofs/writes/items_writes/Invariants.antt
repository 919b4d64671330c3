use Rattle.std.proofs.Common.{◌≡◌, take}
use Rattle.std.specs.Prelude.{flat_map}
use Rattle.elab_firsts.specs.Writes.{item_writes}
use Rattle.elab_firsts.proofs.writes.items_writes.Given as goal

abbrev pub invariant-loop-i : goal.invariant-loop-i
invariant-loop-i l = l.writes ≡ flat_map (item_writes l.names) (take l.i-index l.items)
