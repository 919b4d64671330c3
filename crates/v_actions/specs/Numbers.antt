-- The action of each number.
use Rattle.std.specs.Prelude.{ℕ, slice_index_or}
use Rattle.v_actions.specs.declared.actions.TheConstants.{ACTIONS}
use Rattle.v_actions.specs.declared.actions.Action.{Action}
use Rattle.v_actions.specs.declared.actions.ExpressionAction.TheVariants as ExpressionAction

-- the action that a number of the grammar's table stands for; the table has no number past the end of `ACTIONS`
abbrev pub action_of : ℕ → Action
action_of number = slice_index_or ACTIONS number (Action.Expression ExpressionAction.NoExprs)
