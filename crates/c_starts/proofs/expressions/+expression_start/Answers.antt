use Rattle.std.proofs.Common.{sym, ap, ◌∙◌}
use Rattle.c_tree.specs.Starts.{expression_start as expression_place}
use Rattle.c_starts.proofs.Equations.{binary_start, conditional_start}
use Rattle.c_starts.proofs.expressions.+expression_start.Goals as goal

pub returns-in-Binary : goal.returns-in-Binary
returns-in-Binary t c = c.expression_start.ensures ∙ ap expression_place c.get.ensures ∙ sym (ap expression_place c.in-Binary.is ∙ binary_start c.in-Binary.left c.in-Binary.field-1 c.in-Binary.field-2)

pub returns-in-Conditional : goal.returns-in-Conditional
returns-in-Conditional t c =
    c.expression_start-in-Conditional.ensures ∙ ap expression_place c.get-in-Conditional.ensures
    ∙ sym (ap expression_place c.in-Conditional.is ∙ conditional_start c.in-Conditional.condition c.in-Conditional.field-1 c.in-Conditional.field-2 c.in-Conditional.field-3)
