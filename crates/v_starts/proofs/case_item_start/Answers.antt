use Rattle.std.proofs.Common.{sym, ap, ◌∙◌}
use Rattle.v_tree.specs.Starts.{case_item_start as case_item_place, stmt_start as stmt_place, values_start as values_place}
use Rattle.v_tree.proofs.Equations.{case_item-start}
use Rattle.v_starts.proofs.case_item_start.Goals as goal

pub returns-in-Values : goal.returns-in-Values
returns-in-Values c =
    c.values_start.ensures
    ∙ ap (λ xs. values_place xs c.stmt_start.result) c.as_slice.ensures
    ∙ ap (λ place. values_place c.in-Values.values place) (c.stmt_start.ensures ∙ ap stmt_place c.get.ensures)
    ∙ sym (ap case_item_place c.in-Values.is ∙ case_item-start c.in-Values.values c.in-Values.body)
