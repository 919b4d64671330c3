use Rattle.std.proofs.Common.{◌∙◌}
use Rattle.bind_struct.proofs.Naming.{find_is}
use Rattle.bind_struct.proofs.paths.Paths.find.Goals as goal

pub returns : goal.returns
returns c = find_is c.self.inside.things _ _ _ _ c.self.view_is c.text.ensures (c.copied.ensures ∙ c.get.ensures.value)
