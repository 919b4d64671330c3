use Rattle.std.proofs.Common.{sym, ap, ◌∙◌}
use Rattle.c_tree.specs.Starts.{path_start as path_place}
use Rattle.c_starts.proofs.Equations.{element_start}
use Rattle.c_starts.proofs.expressions.path_start.Goals as goal

pub returns-in-Element : goal.returns-in-Element
returns-in-Element c = c.object_start-in-Element.ensures ∙ sym (ap path_place c.in-Element.is ∙ element_start c.in-Element.object c.in-Element.field-1 c.in-Element.field-2)
