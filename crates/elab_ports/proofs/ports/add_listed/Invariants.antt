use Rattle.std.proofs.Common.{take, map}
use Rattle.name_table.specs.Tables.{find_in}
use Rattle.elab_ports.specs.Making.{Adds}
use Rattle.elab_ports.specs.Ports.{listed_by}
use Rattle.elab_ports.proofs.ports.add_listed.Given as goal

abbrev pub invariant-loop-x : goal.invariant-loop-x
invariant-loop-x l = Adds l.initial.ports l.ports (map (listed_by (find_in l.directed)) (take l.x-index l.xs))
