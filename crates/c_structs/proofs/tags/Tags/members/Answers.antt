use Rattle.std.proofs.Common.{◌≡◌, IfOk, subst}
use Rattle.c_structs.specs.Under.{members_under, few}
use Rattle.c_structs.proofs.Tagging.{members_found}
use Rattle.c_structs.proofs.tags.Tags.members.Goals as goal

pub returns : goal.returns
returns c =
    subst (λ ps. IfOk c.members_of.result (λ ms. ms ≡ few (members_under c.args.object.now ps)))
    (members_found c.self.inside.lists _ _ _ c.get_index_of.result c.self.view_is c.text.ensures c.get_index_of.ensures.index) c.members_of.ensures
