use Rattle.std.proofs.Common.{◌∙◌}
use Rattle.c_names.proofs.Scopes.{find_inner_is}
use Rattle.c_names.proofs.scope.Scopes.find_inner.Goals as goal

pub returns : goal.returns
returns c = find_inner_is c.self.inside.inner _ _ _ _ _ c.self.view_is c.text.ensures (c.copied.ensures ∙ c.get.ensures.value)
