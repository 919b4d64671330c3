use Rattle.std.proofs.Common.{◌≡◌, take}
use Rattle.std.specs.Prelude.{flat_map}
use Rattle.elab_firsts.specs.Writes.{declarator_writes}
use Rattle.elab_firsts.proofs.writes.port_writes.Given as goal

abbrev pub invariant-loop-d : goal.invariant-loop-d
invariant-loop-d l = l.writes ≡ flat_map (declarator_writes l.names) (take l.d-index l.declarators)
