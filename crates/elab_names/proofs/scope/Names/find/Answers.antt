use Rattle.std.proofs.Common.{◌∙◌}
use Rattle.elab_names.proofs.Entries.{find_is}
use Rattle.elab_names.proofs.scope.Names.find.Goals as goal

pub returns : goal.returns
returns c = find_is c.self.inside.entries _ _ _ _ c.self.view_is c.text.ensures (c.copied.ensures ∙ c.get.ensures.value)
