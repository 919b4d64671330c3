-- The actions of a text, one after the other.
use Rattle.std.specs.Prelude.{ℕ, ◌-◌, List, [], ◌∷◌, Option, Some, option_and_then}
use Rattle.ll_actions.specs.declared.step.Step.{Step}
use Rattle.v_actions.specs.declared.actions.Action.{Action}
use Rattle.v_actions.specs.ConnectionActions.{after_connection_action}
use Rattle.v_actions.specs.DeclarationActions.{after_declaration_action}
use Rattle.v_actions.specs.ExpressionActions.{after_expression_action}
use Rattle.v_actions.specs.ModuleActions.{after_module_action}
use Rattle.v_actions.specs.Numbers.{action_of}
use Rattle.v_actions.specs.StatementActions.{after_statement_action}
use Rattle.v_actions.specs.Tokens.{Lexemes, token_value}
use Rattle.v_stack.specs.Values.{Values}

-- an action with i tokens before it; one that reads a token reads the one right before
abbrev pub after_action : Lexemes → Action → ℕ → Values → Option Values
after_action x (Action.Token a) i st = Some (token_value x a (i - 1) ∷ st)
after_action x (Action.Expression a) i st = after_expression_action a st
after_action x (Action.Statement a) i st = after_statement_action a st
after_action x (Action.Declaration a) i st = after_declaration_action a st
after_action x (Action.Connection a) i st = after_connection_action a st
after_action x (Action.Module a) i st = after_module_action a st

-- one step: the action of its number, with so many tokens before it
abbrev pub act : Lexemes → Step → Values → Option Values
act x s st = after_action x (action_of s.action) s.token st

-- what steps leave on the stack
abbrev pub built : Lexemes → List Step → Values → Option Values
built x [] st = Some st
built x (s ∷ ss) st = option_and_then (built x ss) (act x s st)
