use Rattle.std.proofs.Common.{subst}
use Rattle.gate_net.specs.Net.{IsDetermined}
use Rattle.gate_net.proofs.Determined.{determined}
use Rattle.gate_net.proofs.net.Net.values_law.Goals as goal

pub returns : goal.returns
returns c = subst IsDetermined c.self.view_is (determined c.self.inside.nodes.items c.self.invariant)
