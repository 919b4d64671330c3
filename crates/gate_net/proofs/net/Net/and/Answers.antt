use Rattle.gate_net.proofs.NetLemmas.{conjunction-of_gate, conjunction-of_last}
use Rattle.gate_net.proofs.net.Net.and.Goals as goal

pub returns-in-Some-find-clause-value : goal.returns-in-Some-find-clause-value
returns-in-Some-find-clause-value c =
    conjunction-of_gate c.args.self.now c.in-Some-find.node c.gate_of-gate.result c.args.a c.args.b c.in-Some-find.ensures.gate c.gate_of-gate.ensures.value

pub returns-clause-value : goal.returns-clause-value
returns-clause-value c =
    conjunction-of_last c.args.self.now c.put.new.self c.gate_of-gate.result c.args.a c.args.b c.put.result c.put.ensures.added c.put.ensures.edge c.gate_of-gate.ensures.value
