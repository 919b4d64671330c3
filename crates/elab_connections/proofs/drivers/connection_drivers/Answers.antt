use Rattle.std.proofs.Common.{◌∙◌}
use Rattle.elab_connections.proofs.Joining.{joined_is}
use Rattle.elab_connections.proofs.drivers.connection_drivers.Goals as goal

pub returns : goal.returns
returns c list known = c.in_ok-drivers.ensures ∙ joined_is c.args.names.now c.args.outer c.args.first list c.args.ports.now known c.args.connections.now
