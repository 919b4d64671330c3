use Rattle.std.proofs.Common.{[], take}
use Rattle.std.specs.Prelude.{flat_map}
use Rattle.elab_ports.specs.Keeping.{Keeps}
use Rattle.elab_ports.specs.Ports.{item_directed}
use Rattle.elab_ports.proofs.directed.directed_in.Given as goal

abbrev pub invariant-loop-i : goal.invariant-loop-i
invariant-loop-i l = Keeps [] l.table (flat_map item_directed (take l.i-index l.items))
