-- The action of each number.
use Rattle.std.specs.Prelude.{ℕ, slice_index_or}
use Rattle.c_actions.specs.declared.actions.TheConstants.{ACTIONS}
use Rattle.c_actions.specs.declared.actions.Action.{Action}
use Rattle.c_actions.specs.declared.actions.Action.TheVariants as action
use Rattle.c_actions.specs.declared.actions.FileAction.TheVariants as file_action

-- the action with a number of the table
abbrev pub action_of : ℕ → Action
action_of number = slice_index_or ACTIONS number (action.File file_action.NoExternals)
