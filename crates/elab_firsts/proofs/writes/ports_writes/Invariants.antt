use Rattle.std.proofs.Common.{◌≡◌, take}
use Rattle.std.specs.Prelude.{flat_map}
use Rattle.elab_firsts.specs.Writes.{port_writes}
use Rattle.elab_firsts.proofs.writes.ports_writes.Given as goal

abbrev pub invariant-loop-p : goal.invariant-loop-p
invariant-loop-p l = l.writes ≡ flat_map (port_writes l.names) (take l.p-index l.ports)
