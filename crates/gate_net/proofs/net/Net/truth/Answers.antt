use Rattle.std.proofs.Common.{◌∙◌, ap, sym, List}
use Rattle.std.specs.List.{slice_get}
use Rattle.gate_net.specs.declared.net.Node.{Node}
use Rattle.gate_net.proofs.NetLemmas.{edge_value-plain, one-true}
use Rattle.gate_net.proofs.net.Net.truth.Goals as goal

pub returns-clause-value : goal.returns-clause-value
returns-clause-value c a v =
    edge_value-plain a 0 ∙ one-true c.args.self.now a (ap (λ (n : List Node). slice_get n 0) (sym c.self.view_is) ∙ c.self.invariant.starts) v
