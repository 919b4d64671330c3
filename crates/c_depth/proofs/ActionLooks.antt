-- What each action weaves, as the table has it, and that its value looks so.
use Rattle.std.proofs.Common.{◌≡◌, ℕ, List, ◌++◌, map, refl, sym, ap, ◌∙◌}
use Rattle.std.proofs.Math.ListN.{get_or-map}
use Rattle.src_text.specs.declared.refusal.Place.{Place}
use Rattle.node_depth.specs.declared.weave.Weave.{Weave}
use Rattle.node_depth.specs.Weaves.{weave_of}
use Rattle.node_places.proofs.Looks.{of_values, of_token}
use Rattle.c_actions.specs.declared.actions.TokenAction.{TokenAction}
use Rattle.c_actions.specs.declared.actions.TokenAction.TheVariants as token_action
use Rattle.c_actions.specs.declared.actions.ExpressionAction.{ExpressionAction}
use Rattle.c_actions.specs.declared.actions.ExpressionAction.TheVariants as expression_action
use Rattle.c_actions.specs.declared.actions.DeclarationAction.{DeclarationAction}
use Rattle.c_actions.specs.declared.actions.DeclarationAction.TheVariants as declaration_action
use Rattle.c_actions.specs.declared.actions.StatementAction.{StatementAction}
use Rattle.c_actions.specs.declared.actions.StatementAction.TheVariants as statement_action
use Rattle.c_actions.specs.declared.actions.FileAction.{FileAction}
use Rattle.c_actions.specs.declared.actions.FileAction.TheVariants as file_action
use Rattle.c_actions.specs.declared.actions.Action.{Action}
use Rattle.c_actions.specs.declared.actions.Action.TheVariants as action
use Rattle.c_actions.specs.Acts.{after_action, after_token_action, after_file_action}
use Rattle.c_actions.specs.ExpressionActions.{after_expression_action}
use Rattle.c_actions.specs.DeclarationActions.{after_declaration_action}
use Rattle.c_actions.specs.StatementActions.{after_statement_action}
use Rattle.c_actions.specs.declared.actions.TheConstants.{ACTIONS}
use Rattle.c_actions.specs.Numbers.{action_of}
use Rattle.c_actions.specs.Sorts.{sorts_of}
use Rattle.c_actions.proofs.EachFits.{signature}
use Rattle.c_stack.specs.Values.{Values}
use Rattle.c_grammar.specs.declared.TheConstants.{WEAVES}
use Rattle.c_depth.proofs.Values.{Looks}
use Rattle.c_depth.proofs.TokenLooks.{look_place, look_name, look_declared, look_integer, look_character, look_true, look_false, look_static, look_word_type, look_sign, look_unary_mark, look_binary_mark, look_assignment_mark, look_step_mark}
use Rattle.c_depth.proofs.ExpressionLooks.{look_object, look_add_path_member, look_path, look_element, look_no_expressions, look_one_expression, look_add_expression, look_no_expression, look_some_expression, look_read, look_parentheses, look_unary, look_cast, look_binary, look_conditional}
use Rattle.c_depth.proofs.DeclarationLooks.{look_char_type, look_short_type, look_int_type, look_long_type, look_value, look_call_value, look_no_initializer, look_some_initializer, look_plain_declarator, look_initialized, look_array_declarator, look_initialized_array, look_one_declarator, look_add_declarator, look_local, look_const_local, look_plain_item, look_array_item, look_one_item, look_add_item, look_one_name, look_add_name, look_integer_members, look_struct_members, look_one_member, look_add_member, look_no_name, look_some_name, look_parameter, look_const_parameter, look_no_parameters, look_one_parameter, look_add_parameter}
use Rattle.c_depth.proofs.StatementLooks.{look_call, look_assign, look_update, look_step_after, look_step_before, look_no_simple, look_some_simple, look_for_nothing, look_for_local, look_for_simple, look_case, look_default, look_first_label, look_add_label, look_labelled, look_add_to_group, look_group, look_no_groups, look_add_group, look_no_items, look_add_local, look_add_statement, look_block, look_compound, look_empty, look_simple, look_if_alone, look_if_else, look_while, look_do, look_for, look_switch, look_break, look_continue, look_return, look_assert, look_cprover_assert, look_cprover_assume}
use Rattle.c_depth.proofs.FileLooks.{look_no_storage, look_extern, look_function_name, look_void_function, look_integer_function, look_function, look_definition, look_globals, look_const_globals, look_struct, look_mirror, look_bound, look_no_externals, look_one_external, look_add_external, look_file}

abbrev weave_of_token_action : TokenAction → Weave
weave_of_token_action token_action.Place = of_token 0
weave_of_token_action token_action.Name = of_token 0
weave_of_token_action token_action.Declared = of_token 1
weave_of_token_action token_action.Integer = of_token 1
weave_of_token_action token_action.Character = of_token 1
weave_of_token_action token_action.True = of_token 1
weave_of_token_action token_action.False = of_token 1
weave_of_token_action token_action.Static = of_token 0
weave_of_token_action (token_action.Type integer_type) = of_token 0
weave_of_token_action (token_action.Sign word) = of_token 0
weave_of_token_action (token_action.Unary operator) = of_token 0
weave_of_token_action (token_action.Binary operator) = of_token 0
weave_of_token_action (token_action.Assignment operator) = of_token 0
weave_of_token_action (token_action.Step operator) = of_token 0

abbrev weave_of_expression_action : ExpressionAction → Weave
weave_of_expression_action expression_action.Object = of_values 1 0
weave_of_expression_action expression_action.AddPathMember = of_values 2 0
weave_of_expression_action expression_action.Path = of_values 1 1
weave_of_expression_action expression_action.Element = of_values 3 1
weave_of_expression_action expression_action.NoExpressions = of_values 0 0
weave_of_expression_action expression_action.OneExpression = of_values 1 0
weave_of_expression_action expression_action.AddExpression = of_values 2 0
weave_of_expression_action expression_action.NoExpression = of_values 0 0
weave_of_expression_action expression_action.SomeExpression = of_values 1 0
weave_of_expression_action expression_action.Read = of_values 1 0
weave_of_expression_action expression_action.Parentheses = of_values 2 1
weave_of_expression_action expression_action.Unary = of_values 2 1
weave_of_expression_action expression_action.Cast = of_values 3 1
weave_of_expression_action expression_action.Binary = of_values 3 1
weave_of_expression_action expression_action.Conditional = of_values 4 1

abbrev weave_of_declaration_action : DeclarationAction → Weave
weave_of_declaration_action declaration_action.CharType = of_values 1 0
weave_of_declaration_action declaration_action.ShortType = of_values 1 0
weave_of_declaration_action declaration_action.IntType = of_values 1 0
weave_of_declaration_action declaration_action.LongType = of_values 1 0
weave_of_declaration_action declaration_action.Value = of_values 1 0
weave_of_declaration_action declaration_action.CallValue = of_values 2 1
weave_of_declaration_action declaration_action.NoInitializer = of_values 0 0
weave_of_declaration_action declaration_action.SomeInitializer = of_values 1 0
weave_of_declaration_action declaration_action.PlainDeclarator = of_values 1 1
weave_of_declaration_action declaration_action.Initialized = of_values 2 1
weave_of_declaration_action declaration_action.ArrayDeclarator = of_values 2 1
weave_of_declaration_action declaration_action.InitializedArray = of_values 3 1
weave_of_declaration_action declaration_action.OneDeclarator = of_values 1 0
weave_of_declaration_action declaration_action.AddDeclarator = of_values 2 0
weave_of_declaration_action declaration_action.Local = of_values 2 0
weave_of_declaration_action declaration_action.ConstLocal = of_values 3 0
weave_of_declaration_action declaration_action.PlainItem = of_values 1 1
weave_of_declaration_action declaration_action.ArrayItem = of_values 2 1
weave_of_declaration_action declaration_action.OneItem = of_values 1 0
weave_of_declaration_action declaration_action.AddItem = of_values 2 0
weave_of_declaration_action declaration_action.OneName = of_values 1 0
weave_of_declaration_action declaration_action.AddName = of_values 2 0
weave_of_declaration_action declaration_action.IntegerMembers = of_values 2 0
weave_of_declaration_action declaration_action.StructMembers = of_values 3 0
weave_of_declaration_action declaration_action.OneMember = of_values 1 0
weave_of_declaration_action declaration_action.AddMember = of_values 2 0
weave_of_declaration_action declaration_action.NoName = of_values 0 0
weave_of_declaration_action declaration_action.SomeName = of_values 1 0
weave_of_declaration_action declaration_action.Parameter = of_values 2 0
weave_of_declaration_action declaration_action.ConstParameter = of_values 3 0
weave_of_declaration_action declaration_action.NoParameters = of_values 0 0
weave_of_declaration_action declaration_action.OneParameter = of_values 1 0
weave_of_declaration_action declaration_action.AddParameter = of_values 2 0

abbrev weave_of_statement_action : StatementAction → Weave
weave_of_statement_action statement_action.Call = of_values 2 1
weave_of_statement_action statement_action.Assign = of_values 2 0
weave_of_statement_action statement_action.Update = of_values 3 0
weave_of_statement_action statement_action.StepAfter = of_values 2 0
weave_of_statement_action statement_action.StepBefore = of_values 2 0
weave_of_statement_action statement_action.NoSimple = of_values 0 0
weave_of_statement_action statement_action.SomeSimple = of_values 1 0
weave_of_statement_action statement_action.ForNothing = of_values 0 0
weave_of_statement_action statement_action.ForLocal = of_values 1 0
weave_of_statement_action statement_action.ForSimple = of_values 1 0
weave_of_statement_action statement_action.Case = of_values 2 0
weave_of_statement_action statement_action.Default = of_values 1 0
weave_of_statement_action statement_action.FirstLabel = of_values 1 0
weave_of_statement_action statement_action.AddLabel = of_values 2 0
weave_of_statement_action statement_action.Labelled = of_values 1 0
weave_of_statement_action statement_action.AddToGroup = of_values 2 0
weave_of_statement_action statement_action.Group = of_values 1 1
weave_of_statement_action statement_action.NoGroups = of_values 0 0
weave_of_statement_action statement_action.AddGroup = of_values 2 0
weave_of_statement_action statement_action.NoItems = of_values 0 0
weave_of_statement_action statement_action.AddLocal = of_values 2 0
weave_of_statement_action statement_action.AddStatement = of_values 2 0
weave_of_statement_action statement_action.Block = of_values 2 1
weave_of_statement_action statement_action.Compound = of_values 1 0
weave_of_statement_action statement_action.Empty = of_values 1 1
weave_of_statement_action statement_action.Simple = of_values 1 1
weave_of_statement_action statement_action.IfAlone = of_values 3 1
weave_of_statement_action statement_action.IfElse = of_values 4 1
weave_of_statement_action statement_action.While = of_values 3 1
weave_of_statement_action statement_action.Do = of_values 3 1
weave_of_statement_action statement_action.For = of_values 5 1
weave_of_statement_action statement_action.Switch = of_values 3 1
weave_of_statement_action statement_action.Break = of_values 1 1
weave_of_statement_action statement_action.Continue = of_values 1 1
weave_of_statement_action statement_action.Return = of_values 2 1
weave_of_statement_action statement_action.Assert = of_values 2 1
weave_of_statement_action statement_action.CproverAssert = of_values 2 1
weave_of_statement_action statement_action.CproverAssume = of_values 2 1

abbrev weave_of_file_action : FileAction → Weave
weave_of_file_action file_action.NoStorage = of_values 0 0
weave_of_file_action file_action.Extern = of_values 1 0
weave_of_file_action file_action.FunctionName = of_values 1 1
weave_of_file_action file_action.VoidFunction = of_values 2 0
weave_of_file_action file_action.IntegerFunction = of_values 2 0
weave_of_file_action file_action.Function = of_values 3 1
weave_of_file_action file_action.Definition = of_values 4 1
weave_of_file_action file_action.Globals = of_values 3 1
weave_of_file_action file_action.ConstGlobals = of_values 4 1
weave_of_file_action file_action.Struct = of_values 3 1
weave_of_file_action file_action.Mirror = of_values 3 1
weave_of_file_action file_action.Bound = of_values 3 1
weave_of_file_action file_action.NoExternals = of_values 0 0
weave_of_file_action file_action.OneExternal = of_values 1 0
weave_of_file_action file_action.AddExternal = of_values 2 0
weave_of_file_action file_action.File = of_values 1 1

abbrev pub weave : Action → Weave
weave (action.Token a) = weave_of_token_action a
weave (action.Expression a) = weave_of_expression_action a
weave (action.Declaration a) = weave_of_declaration_action a
weave (action.Statement a) = weave_of_statement_action a
weave (action.File a) = weave_of_file_action a

weaves : map weave ACTIONS ≡ WEAVES
weaves = refl

pub weave_at : (n : ℕ) → weave_of WEAVES n ≡ weave (action_of n)
weave_at n = ap (λ ws. weave_of ws n) (sym weaves) ∙ get_or-map weave ACTIONS n (action.File file_action.NoExternals)

look_token_action : (a : TokenAction) (nothing : Place) (place : Place) (spelling : List ℕ) (st : Values) (rest : List ℕ) → sorts_of st ≡ (signature (action.Token a)).takes ++ rest → Looks nothing (weave_of_token_action a) place st (after_token_action a place spelling st)
look_token_action token_action.Place nothing place spelling st rest e = look_place nothing place st rest e
look_token_action token_action.Name nothing place spelling st rest e = look_name nothing place spelling st rest e
look_token_action token_action.Declared nothing place spelling st rest e = look_declared nothing place spelling st rest e
look_token_action token_action.Integer nothing place spelling st rest e = look_integer nothing place spelling st rest e
look_token_action token_action.Character nothing place spelling st rest e = look_character nothing place spelling st rest e
look_token_action token_action.True nothing place spelling st rest e = look_true nothing place st rest e
look_token_action token_action.False nothing place spelling st rest e = look_false nothing place st rest e
look_token_action token_action.Static nothing place spelling st rest e = look_static nothing place st rest e
look_token_action (token_action.Type integer_type) nothing place spelling st rest e = look_word_type nothing integer_type place st rest e
look_token_action (token_action.Sign word) nothing place spelling st rest e = look_sign nothing word place st rest e
look_token_action (token_action.Unary operator) nothing place spelling st rest e = look_unary_mark nothing operator place st rest e
look_token_action (token_action.Binary operator) nothing place spelling st rest e = look_binary_mark nothing operator place st rest e
look_token_action (token_action.Assignment operator) nothing place spelling st rest e = look_assignment_mark nothing operator place st rest e
look_token_action (token_action.Step operator) nothing place spelling st rest e = look_step_mark nothing operator place st rest e

look_expression_action : (a : ExpressionAction) (nothing : Place) (own : Place) (st : Values) (rest : List ℕ) → sorts_of st ≡ (signature (action.Expression a)).takes ++ rest → Looks nothing (weave_of_expression_action a) own st (after_expression_action a st)
look_expression_action expression_action.Object nothing own st rest e = look_object nothing own st rest e
look_expression_action expression_action.AddPathMember nothing own st rest e = look_add_path_member nothing own st rest e
look_expression_action expression_action.Path nothing own st rest e = look_path nothing own st rest e
look_expression_action expression_action.Element nothing own st rest e = look_element nothing own st rest e
look_expression_action expression_action.NoExpressions nothing own st rest e = look_no_expressions nothing own st rest e
look_expression_action expression_action.OneExpression nothing own st rest e = look_one_expression nothing own st rest e
look_expression_action expression_action.AddExpression nothing own st rest e = look_add_expression nothing own st rest e
look_expression_action expression_action.NoExpression nothing own st rest e = look_no_expression nothing own st rest e
look_expression_action expression_action.SomeExpression nothing own st rest e = look_some_expression nothing own st rest e
look_expression_action expression_action.Read nothing own st rest e = look_read nothing own st rest e
look_expression_action expression_action.Parentheses nothing own st rest e = look_parentheses nothing own st rest e
look_expression_action expression_action.Unary nothing own st rest e = look_unary nothing own st rest e
look_expression_action expression_action.Cast nothing own st rest e = look_cast nothing own st rest e
look_expression_action expression_action.Binary nothing own st rest e = look_binary nothing own st rest e
look_expression_action expression_action.Conditional nothing own st rest e = look_conditional nothing own st rest e

look_declaration_action : (a : DeclarationAction) (nothing : Place) (own : Place) (st : Values) (rest : List ℕ) → sorts_of st ≡ (signature (action.Declaration a)).takes ++ rest → Looks nothing (weave_of_declaration_action a) own st (after_declaration_action a st)
look_declaration_action declaration_action.CharType nothing own st rest e = look_char_type nothing own st rest e
look_declaration_action declaration_action.ShortType nothing own st rest e = look_short_type nothing own st rest e
look_declaration_action declaration_action.IntType nothing own st rest e = look_int_type nothing own st rest e
look_declaration_action declaration_action.LongType nothing own st rest e = look_long_type nothing own st rest e
look_declaration_action declaration_action.Value nothing own st rest e = look_value nothing own st rest e
look_declaration_action declaration_action.CallValue nothing own st rest e = look_call_value nothing own st rest e
look_declaration_action declaration_action.NoInitializer nothing own st rest e = look_no_initializer nothing own st rest e
look_declaration_action declaration_action.SomeInitializer nothing own st rest e = look_some_initializer nothing own st rest e
look_declaration_action declaration_action.PlainDeclarator nothing own st rest e = look_plain_declarator nothing own st rest e
look_declaration_action declaration_action.Initialized nothing own st rest e = look_initialized nothing own st rest e
look_declaration_action declaration_action.ArrayDeclarator nothing own st rest e = look_array_declarator nothing own st rest e
look_declaration_action declaration_action.InitializedArray nothing own st rest e = look_initialized_array nothing own st rest e
look_declaration_action declaration_action.OneDeclarator nothing own st rest e = look_one_declarator nothing own st rest e
look_declaration_action declaration_action.AddDeclarator nothing own st rest e = look_add_declarator nothing own st rest e
look_declaration_action declaration_action.Local nothing own st rest e = look_local nothing own st rest e
look_declaration_action declaration_action.ConstLocal nothing own st rest e = look_const_local nothing own st rest e
look_declaration_action declaration_action.PlainItem nothing own st rest e = look_plain_item nothing own st rest e
look_declaration_action declaration_action.ArrayItem nothing own st rest e = look_array_item nothing own st rest e
look_declaration_action declaration_action.OneItem nothing own st rest e = look_one_item nothing own st rest e
look_declaration_action declaration_action.AddItem nothing own st rest e = look_add_item nothing own st rest e
look_declaration_action declaration_action.OneName nothing own st rest e = look_one_name nothing own st rest e
look_declaration_action declaration_action.AddName nothing own st rest e = look_add_name nothing own st rest e
look_declaration_action declaration_action.IntegerMembers nothing own st rest e = look_integer_members nothing own st rest e
look_declaration_action declaration_action.StructMembers nothing own st rest e = look_struct_members nothing own st rest e
look_declaration_action declaration_action.OneMember nothing own st rest e = look_one_member nothing own st rest e
look_declaration_action declaration_action.AddMember nothing own st rest e = look_add_member nothing own st rest e
look_declaration_action declaration_action.NoName nothing own st rest e = look_no_name nothing own st rest e
look_declaration_action declaration_action.SomeName nothing own st rest e = look_some_name nothing own st rest e
look_declaration_action declaration_action.Parameter nothing own st rest e = look_parameter nothing own st rest e
look_declaration_action declaration_action.ConstParameter nothing own st rest e = look_const_parameter nothing own st rest e
look_declaration_action declaration_action.NoParameters nothing own st rest e = look_no_parameters nothing own st rest e
look_declaration_action declaration_action.OneParameter nothing own st rest e = look_one_parameter nothing own st rest e
look_declaration_action declaration_action.AddParameter nothing own st rest e = look_add_parameter nothing own st rest e

look_statement_action : (a : StatementAction) (nothing : Place) (own : Place) (st : Values) (rest : List ℕ) → sorts_of st ≡ (signature (action.Statement a)).takes ++ rest → Looks nothing (weave_of_statement_action a) own st (after_statement_action a st)
look_statement_action statement_action.Call nothing own st rest e = look_call nothing own st rest e
look_statement_action statement_action.Assign nothing own st rest e = look_assign nothing own st rest e
look_statement_action statement_action.Update nothing own st rest e = look_update nothing own st rest e
look_statement_action statement_action.StepAfter nothing own st rest e = look_step_after nothing own st rest e
look_statement_action statement_action.StepBefore nothing own st rest e = look_step_before nothing own st rest e
look_statement_action statement_action.NoSimple nothing own st rest e = look_no_simple nothing own st rest e
look_statement_action statement_action.SomeSimple nothing own st rest e = look_some_simple nothing own st rest e
look_statement_action statement_action.ForNothing nothing own st rest e = look_for_nothing nothing own st rest e
look_statement_action statement_action.ForLocal nothing own st rest e = look_for_local nothing own st rest e
look_statement_action statement_action.ForSimple nothing own st rest e = look_for_simple nothing own st rest e
look_statement_action statement_action.Case nothing own st rest e = look_case nothing own st rest e
look_statement_action statement_action.Default nothing own st rest e = look_default nothing own st rest e
look_statement_action statement_action.FirstLabel nothing own st rest e = look_first_label nothing own st rest e
look_statement_action statement_action.AddLabel nothing own st rest e = look_add_label nothing own st rest e
look_statement_action statement_action.Labelled nothing own st rest e = look_labelled nothing own st rest e
look_statement_action statement_action.AddToGroup nothing own st rest e = look_add_to_group nothing own st rest e
look_statement_action statement_action.Group nothing own st rest e = look_group nothing own st rest e
look_statement_action statement_action.NoGroups nothing own st rest e = look_no_groups nothing own st rest e
look_statement_action statement_action.AddGroup nothing own st rest e = look_add_group nothing own st rest e
look_statement_action statement_action.NoItems nothing own st rest e = look_no_items nothing own st rest e
look_statement_action statement_action.AddLocal nothing own st rest e = look_add_local nothing own st rest e
look_statement_action statement_action.AddStatement nothing own st rest e = look_add_statement nothing own st rest e
look_statement_action statement_action.Block nothing own st rest e = look_block nothing own st rest e
look_statement_action statement_action.Compound nothing own st rest e = look_compound nothing own st rest e
look_statement_action statement_action.Empty nothing own st rest e = look_empty nothing own st rest e
look_statement_action statement_action.Simple nothing own st rest e = look_simple nothing own st rest e
look_statement_action statement_action.IfAlone nothing own st rest e = look_if_alone nothing own st rest e
look_statement_action statement_action.IfElse nothing own st rest e = look_if_else nothing own st rest e
look_statement_action statement_action.While nothing own st rest e = look_while nothing own st rest e
look_statement_action statement_action.Do nothing own st rest e = look_do nothing own st rest e
look_statement_action statement_action.For nothing own st rest e = look_for nothing own st rest e
look_statement_action statement_action.Switch nothing own st rest e = look_switch nothing own st rest e
look_statement_action statement_action.Break nothing own st rest e = look_break nothing own st rest e
look_statement_action statement_action.Continue nothing own st rest e = look_continue nothing own st rest e
look_statement_action statement_action.Return nothing own st rest e = look_return nothing own st rest e
look_statement_action statement_action.Assert nothing own st rest e = look_assert nothing own st rest e
look_statement_action statement_action.CproverAssert nothing own st rest e = look_cprover_assert nothing own st rest e
look_statement_action statement_action.CproverAssume nothing own st rest e = look_cprover_assume nothing own st rest e

look_file_action : (a : FileAction) (nothing : Place) (own : Place) (end : Place) (st : Values) (rest : List ℕ) → sorts_of st ≡ (signature (action.File a)).takes ++ rest → Looks nothing (weave_of_file_action a) own st (after_file_action a end st)
look_file_action file_action.NoStorage nothing own end st rest e = look_no_storage nothing own st rest e
look_file_action file_action.Extern nothing own end st rest e = look_extern nothing own st rest e
look_file_action file_action.FunctionName nothing own end st rest e = look_function_name nothing own st rest e
look_file_action file_action.VoidFunction nothing own end st rest e = look_void_function nothing own st rest e
look_file_action file_action.IntegerFunction nothing own end st rest e = look_integer_function nothing own st rest e
look_file_action file_action.Function nothing own end st rest e = look_function nothing own st rest e
look_file_action file_action.Definition nothing own end st rest e = look_definition nothing own st rest e
look_file_action file_action.Globals nothing own end st rest e = look_globals nothing own st rest e
look_file_action file_action.ConstGlobals nothing own end st rest e = look_const_globals nothing own st rest e
look_file_action file_action.Struct nothing own end st rest e = look_struct nothing own st rest e
look_file_action file_action.Mirror nothing own end st rest e = look_mirror nothing own st rest e
look_file_action file_action.Bound nothing own end st rest e = look_bound nothing own st rest e
look_file_action file_action.NoExternals nothing own end st rest e = look_no_externals nothing own st rest e
look_file_action file_action.OneExternal nothing own end st rest e = look_one_external nothing own st rest e
look_file_action file_action.AddExternal nothing own end st rest e = look_add_external nothing own st rest e
look_file_action file_action.File nothing own end st rest e = look_file nothing own end st rest e

-- an action that finds the sorts that it takes gives the look that its weave says
pub look_action : (a : Action) (nothing end place : Place) (spelling : List ℕ) (st : Values) (rest : List ℕ) → sorts_of st ≡ (signature a).takes ++ rest →
    Looks nothing (weave a) place st (after_action a end place spelling st)
look_action (action.Token a) nothing end place spelling st rest e = look_token_action a nothing place spelling st rest e
look_action (action.Expression a) nothing end place spelling st rest e = look_expression_action a nothing place st rest e
look_action (action.Declaration a) nothing end place spelling st rest e = look_declaration_action a nothing place st rest e
look_action (action.Statement a) nothing end place spelling st rest e = look_statement_action a nothing place st rest e
look_action (action.File a) nothing end place spelling st rest e = look_file_action a nothing place end st rest e
