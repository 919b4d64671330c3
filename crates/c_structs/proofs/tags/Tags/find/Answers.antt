use Rattle.c_structs.proofs.Tagging.{find_is}
use Rattle.c_structs.proofs.tags.Tags.find.Goals as goal

pub returns : goal.returns
returns c = find_is c.self.inside.lists _ _ _ _ c.self.view_is c.text.ensures c.get_index_of.ensures.index
