use Rattle.std.proofs.Common.{◌∙◌}
use Rattle.c_structs.proofs.Tagging.{has_is}
use Rattle.c_structs.proofs.tags.Tags.has.Goals as goal

pub returns : goal.returns
returns c = c.is_some.ensures ∙ has_is c.args.self.now c.args.tag.now c.find.result c.find.ensures
