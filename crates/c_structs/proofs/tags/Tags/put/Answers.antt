use Rattle.c_structs.proofs.Tagging.{put_new}
use Rattle.c_structs.proofs.tags.Tags.put.Goals as goal

pub returns : goal.returns
returns c =
    put_new c.self.inside.lists c.insert.new.self _ c.in_ok-key.key _ _ _ c.self.view_is c.text.ensures c.in_ok-key.ensures.ok c.if-has.ensures c.in_ok-insert.ensures.entries
