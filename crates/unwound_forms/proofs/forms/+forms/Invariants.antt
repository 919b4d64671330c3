use Rattle.std.proofs.Common.{◌≡◌, ◌+◌, ◌*◌, drop}
use Rattle.unwound_forms.specs.Made.{items_are_made, cases_are_made}
use Rattle.unwound_forms.proofs.forms.+forms.Given as goal

abbrev pub decreases-is_stmt_made : goal.decreases-is_stmt_made
decreases-is_stmt_made l = 3 * goal.size-is_stmt_made l + 3

abbrev pub decreases-is_option_made : goal.decreases-is_option_made
decreases-is_option_made l = 3 * goal.size-is_option_made l + 4

abbrev pub decreases-are_items_made : goal.decreases-are_items_made
decreases-are_items_made l = 3 * goal.size-are_items_made l + 4

abbrev pub decreases-is_loop_made : goal.decreases-is_loop_made
decreases-is_loop_made l = 3 * goal.size-is_loop_made l + 4

abbrev pub invariant-are_items_made-loop-s : goal.invariant-are_items_made-loop-s
invariant-are_items_made-loop-s l = items_are_made l.program l.items ≡ items_are_made l.program (drop l.s-index l.items)

abbrev pub decreases-are_cases_made : goal.decreases-are_cases_made
decreases-are_cases_made l = 3 * goal.size-are_cases_made l + 4

abbrev pub invariant-are_cases_made-loop-group : goal.invariant-are_cases_made-loop-group
invariant-are_cases_made-loop-group l = cases_are_made l.program l.groups ≡ cases_are_made l.program (drop l.group-index l.groups)
