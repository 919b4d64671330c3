use Rattle.elab_ports.proofs.Keeping.{kept_new}
use Rattle.elab_ports.proofs.directed.keep_first.Goals as goal

pub returns-in_ok-put-in-None : goal.returns-in_ok-put-in-None
returns-in_ok-put-in-None g c = kept_new c.args.table.now c.put.new.self c.args.name.now c.args.value c.find.result c.find.ensures c.in-None.is c.in_ok-put-in-None.ensures
