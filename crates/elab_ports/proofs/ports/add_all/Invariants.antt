use Rattle.std.proofs.Common.{take}
use Rattle.std.specs.Prelude.{flat_map}
use Rattle.elab_ports.specs.Making.{Adds}
use Rattle.elab_ports.specs.Ports.{declared_ports}
use Rattle.elab_ports.proofs.ports.add_all.Given as goal

abbrev pub invariant-loop-p : goal.invariant-loop-p
invariant-loop-p l = Adds l.initial.ports l.ports (flat_map declared_ports (take l.p-index l.ps))
