use Rattle.std.proofs.Common.{◌≡◌, take}
use Rattle.std.specs.Prelude.{flat_map}
use Rattle.elab_firsts.specs.Writes.{register_writes}
use Rattle.elab_firsts.proofs.writes.registers_writes.Given as goal

abbrev pub invariant-loop-r : goal.invariant-loop-r
invariant-loop-r l = l.writes ≡ flat_map (register_writes l.names) (take l.r-index l.registers)
