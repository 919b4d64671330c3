use Rattle.c_constants.proofs.Firsts.{element_first}
use Rattle.c_constants.proofs.places.path_place.Goals as goal

pub returns-in-Element : goal.returns-in-Element
returns-in-Element c = element_first c.args.path.now _ _ _ c.in-Element.is
