use Rattle.elab_names.proofs.Entries.{declare_is}
use Rattle.elab_names.proofs.scope.Names.declare.Goals as goal

pub returns : goal.returns
returns c = declare_is c.self.inside.entries c.insert.new.self _ _ _ _ _ c.self.view_is c.text.ensures c.in_ok-key.ensures.ok c.in_ok-insert.ensures.entries
