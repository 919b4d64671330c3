use Rattle.elab_ports.proofs.Adding.{adds_one}
use Rattle.elab_ports.proofs.ports.add_port.Goals as goal

pub returns : goal.returns
returns c = adds_one c.args.ports.now _ c.args.name.now c.args.direction c.len.result c.len.ensures c.in_ok-keep_first.ensures c.in_ok-push.ensures.ok
