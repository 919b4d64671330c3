use Rattle.std.proofs.Common.{take, map}
use Rattle.elab_ports.specs.Keeping.{Keeps}
use Rattle.elab_ports.specs.Ports.{directed_name}
use Rattle.elab_ports.proofs.directed.keep_names.Given as goal

abbrev pub invariant-loop-x : goal.invariant-loop-x
invariant-loop-x l = Keeps l.initial.table l.table (map (directed_name l.kind) (take l.x-index l.xs))
