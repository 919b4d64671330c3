use Rattle.name_table.proofs.Entries.{put_is}
use Rattle.name_table.proofs.Table.put.Goals as goal

pub returns : goal.returns
returns g c = put_is c.self.inside.entries c.insert.new.self _ _ _ _ _ c.self.view_is c.text.ensures c.in_ok-key.ensures.ok c.in_ok-insert.ensures.entries
