use Rattle.bind_struct.proofs.Naming.{put_is}
use Rattle.bind_struct.proofs.paths.Paths.put.Goals as goal

pub returns : goal.returns
returns c = put_is c.self.inside.things.entries c.insert.new.self.entries _ _ _ _ _ c.self.view_is c.text.ensures c.in_ok-key.ensures.ok c.in_ok-insert.ensures.entries
