use Rattle.std.proofs.Common.{[], subst}
use Rattle.elab_ports.specs.Ports.{header_ports}
use Rattle.elab_ports.specs.Making.{IsPorts}
use Rattle.elab_ports.proofs.Adding.{none_yet}
use Rattle.elab_ports.proofs.ports.module_ports.Goals as goal

pub returns : goal.returns
returns c =
    subst (λ l. IsPorts (header_ports l c.args.m.now.header) c.add_header.new.ports) c.as_slice.ensures
    (c.in_ok-add_header.ensures.longer [] (none_yet _ c.new.ensures c.new-2.ensures))
