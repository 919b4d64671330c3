use Rattle.c_names.proofs.Scopes.{declare_is}
use Rattle.c_names.proofs.scope.Scopes.declare.Goals as goal

pub returns : goal.returns
returns c = declare_is c.self.inside.inner c.insert.new.self _ _ _ _ _ _ c.self.view_is c.text.ensures c.in_ok-key.ensures.ok c.in_ok-insert.ensures.entries
