use Rattle.std.proofs.Common.{sym, ap, ◌∙◌}
use Rattle.v_tree.specs.Starts.{expr_start as expr_place}
use Rattle.v_tree.proofs.Equations.{binary_start, conditional_start}
use Rattle.v_starts.proofs.+expr_start.Goals as goal

pub returns-in-Binary : goal.returns-in-Binary
returns-in-Binary t c =
    c.expr_start.ensures ∙ ap expr_place c.get.ensures
    ∙ sym (ap expr_place c.in-Binary.is ∙ binary_start c.in-Binary.left c.in-Binary.field-2 c.in-Binary.field-1)

pub returns-in-Conditional : goal.returns-in-Conditional
returns-in-Conditional t c =
    c.expr_start-in-Conditional.ensures ∙ ap expr_place c.get-in-Conditional.ensures
    ∙ sym (ap expr_place c.in-Conditional.is ∙ conditional_start c.in-Conditional.condition c.in-Conditional.field-1 c.in-Conditional.field-2)
