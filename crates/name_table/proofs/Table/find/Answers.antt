use Rattle.std.proofs.Common.{◌∙◌}
use Rattle.name_table.proofs.Entries.{find_is}
use Rattle.name_table.proofs.Table.find.Goals as goal

pub returns : goal.returns
returns g c = find_is c.self.inside.entries _ _ _ _ c.self.view_is c.text.ensures (c.copied.ensures ∙ c.get.ensures.value)
