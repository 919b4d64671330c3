use Rattle.std.proofs.Common.{take, map}
use Rattle.elab_ports.specs.Making.{Adds}
use Rattle.elab_ports.specs.Ports.{declared_port}
use Rattle.elab_ports.proofs.ports.add_declared.Given as goal

abbrev pub invariant-loop-d : goal.invariant-loop-d
invariant-loop-d l = Adds l.initial.ports l.ports (map (declared_port l.p.direction.kind) (take l.d-index l.p.names))
