-- The actions.
use Rattle.std.specs.Prelude.{ℕ, List, Option}
use Rattle.src_text.specs.declared.refusal.Place.{Place}
use Rattle.c_actions.specs.declared.actions.TokenAction.{TokenAction}
use Rattle.c_actions.specs.declared.actions.TokenAction.TheVariants as token_action
use Rattle.c_actions.specs.declared.actions.FileAction.{FileAction}
use Rattle.c_actions.specs.declared.actions.FileAction.TheVariants as file_action
use Rattle.c_actions.specs.declared.actions.Action.{Action}
use Rattle.c_actions.specs.declared.actions.Action.TheVariants as action
use Rattle.c_stack.specs.Values.{Values}
use Rattle.c_actions.specs.TokenActions.{after_place, after_name, after_declared, after_integer, after_character, after_true, after_false, after_static, after_word_type, after_sign, after_unary_mark, after_binary_mark, after_assignment_mark, after_step_mark}
use Rattle.c_actions.specs.ExpressionActions.{after_expression_action}
use Rattle.c_actions.specs.DeclarationActions.{after_declaration_action}
use Rattle.c_actions.specs.StatementActions.{after_statement_action}
use Rattle.c_actions.specs.FileActions.{after_no_storage, after_extern, after_function_name, after_void_function, after_integer_function, after_function, after_definition, after_globals, after_const_globals, after_struct, after_mirror, after_bound, after_no_externals, after_one_external, after_add_external, after_file}

-- the stack after an action on a token, with its place and its bytes; none where the stack isn't as the action needs it
abbrev pub after_token_action : TokenAction → Place → List ℕ → Values → Option Values
after_token_action token_action.Place place spelling st = after_place place st
after_token_action token_action.Name place spelling st = after_name place spelling st
after_token_action token_action.Declared place spelling st = after_declared place spelling st
after_token_action token_action.Integer place spelling st = after_integer place spelling st
after_token_action token_action.Character place spelling st = after_character place spelling st
after_token_action token_action.True place spelling st = after_true place st
after_token_action token_action.False place spelling st = after_false place st
after_token_action token_action.Static place spelling st = after_static place st
after_token_action (token_action.Type integer_type) place spelling st = after_word_type integer_type place st
after_token_action (token_action.Sign word) place spelling st = after_sign word place st
after_token_action (token_action.Unary operator) place spelling st = after_unary_mark operator place st
after_token_action (token_action.Binary operator) place spelling st = after_binary_mark operator place st
after_token_action (token_action.Assignment operator) place spelling st = after_assignment_mark operator place st
after_token_action (token_action.Step operator) place spelling st = after_step_mark operator place st

-- the stack after an action of a file, where the text ends at this place; none where it isn't as the action needs it
abbrev pub after_file_action : FileAction → Place → Values → Option Values
after_file_action file_action.NoStorage end st = after_no_storage st
after_file_action file_action.Extern end st = after_extern st
after_file_action file_action.FunctionName end st = after_function_name st
after_file_action file_action.VoidFunction end st = after_void_function st
after_file_action file_action.IntegerFunction end st = after_integer_function st
after_file_action file_action.Function end st = after_function st
after_file_action file_action.Definition end st = after_definition st
after_file_action file_action.Globals end st = after_globals st
after_file_action file_action.ConstGlobals end st = after_const_globals st
after_file_action file_action.Struct end st = after_struct st
after_file_action file_action.Mirror end st = after_mirror st
after_file_action file_action.Bound end st = after_bound st
after_file_action file_action.NoExternals end st = after_no_externals st
after_file_action file_action.OneExternal end st = after_one_external st
after_file_action file_action.AddExternal end st = after_add_external st
after_file_action file_action.File end st = after_file end st

-- what an action leaves on the stack, where the text ends at `end`, from the token right before it
abbrev pub after_action : Action → (end place : Place) → (spelling : List ℕ) → Values → Option Values
after_action (action.Token a) end place spelling st = after_token_action a place spelling st
after_action (action.Expression a) end place spelling st = after_expression_action a st
after_action (action.Declaration a) end place spelling st = after_declaration_action a st
after_action (action.Statement a) end place spelling st = after_statement_action a st
after_action (action.File a) end place spelling st = after_file_action a end st
