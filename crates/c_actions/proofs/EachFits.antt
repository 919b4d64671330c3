-- What each action takes and gives, as the table's signatures have it, and that it always can.
use Rattle.std.proofs.Common.{◌≡◌, ℕ, List, [], ◌∷◌, ◌++◌, map, refl, sym, ap, ◌∙◌, slice_index_or}
use Rattle.std.proofs.Math.ListN.{get_or-map}
use Rattle.src_text.specs.declared.refusal.Place.{Place}
use Rattle.ll_actions.specs.Sorts.{Signature, signature_of}
use Rattle.c_actions.specs.declared.actions.TokenAction.{TokenAction}
use Rattle.c_actions.specs.declared.actions.TokenAction.TheVariants as token_action
use Rattle.c_actions.specs.declared.actions.ExpressionAction.{ExpressionAction}
use Rattle.c_actions.specs.declared.actions.ExpressionAction.TheVariants as expression_action
use Rattle.c_actions.specs.declared.actions.DeclarationAction.{DeclarationAction}
use Rattle.c_actions.specs.declared.actions.DeclarationAction.TheVariants as declaration_action
use Rattle.c_actions.specs.declared.actions.StatementAction.{StatementAction}
use Rattle.c_actions.specs.declared.actions.StatementAction.TheVariants as statement_action
use Rattle.c_actions.specs.declared.actions.FileAction.{FileAction}
use Rattle.c_actions.specs.declared.actions.FileAction.TheVariants as file_action
use Rattle.c_actions.specs.declared.actions.Action.{Action}
use Rattle.c_actions.specs.declared.actions.Action.TheVariants as action
use Rattle.c_actions.specs.Acts.{after_action, after_token_action, after_file_action}
use Rattle.c_actions.specs.ExpressionActions.{after_expression_action}
use Rattle.c_actions.specs.DeclarationActions.{after_declaration_action}
use Rattle.c_actions.specs.StatementActions.{after_statement_action}
use Rattle.c_actions.specs.declared.actions.TheConstants.{ACTIONS}
use Rattle.c_actions.specs.Numbers.{action_of}
use Rattle.c_stack.specs.Values.{Values}
use Rattle.c_grammar.specs.Actions.{SIGNATURES}
use Rattle.c_actions.specs.Sorts.{sorts_of}
use Rattle.c_actions.proofs.Fitting.{Makes, fit_place, fit_name, fit_declared, fit_integer, fit_character, fit_true, fit_false, fit_static, fit_word_type, fit_sign, fit_unary_mark, fit_binary_mark, fit_assignment_mark, fit_step_mark, fit_object, fit_add_path_member, fit_path, fit_element, fit_no_expressions, fit_one_expression, fit_add_expression, fit_no_expression, fit_some_expression, fit_read, fit_parentheses, fit_unary, fit_cast, fit_binary, fit_conditional, fit_char_type, fit_short_type, fit_int_type, fit_long_type, fit_value, fit_call_value, fit_no_initializer, fit_some_initializer, fit_plain_declarator, fit_initialized, fit_array_declarator, fit_initialized_array, fit_one_declarator, fit_add_declarator, fit_local, fit_const_local, fit_plain_item, fit_array_item, fit_one_item, fit_add_item, fit_one_name, fit_add_name, fit_integer_members, fit_struct_members, fit_one_member, fit_add_member, fit_no_name, fit_some_name, fit_parameter, fit_const_parameter, fit_no_parameters, fit_one_parameter, fit_add_parameter, fit_call, fit_assign, fit_update, fit_step_after, fit_step_before, fit_no_simple, fit_some_simple, fit_for_nothing, fit_for_local, fit_for_simple, fit_case, fit_default, fit_first_label, fit_add_label, fit_labelled, fit_add_to_group, fit_group, fit_no_groups, fit_add_group, fit_no_items, fit_add_local, fit_add_statement, fit_block, fit_compound, fit_empty, fit_simple, fit_if_alone, fit_if_else, fit_while, fit_do, fit_for, fit_switch, fit_break, fit_continue, fit_return, fit_assert, fit_cprover_assert, fit_cprover_assume, fit_no_storage, fit_extern, fit_function_name, fit_void_function, fit_integer_function, fit_function, fit_definition, fit_globals, fit_const_globals, fit_struct, fit_mirror, fit_bound, fit_no_externals, fit_one_external, fit_add_external, fit_file}

abbrev signature_of_token_action : TokenAction → Signature
signature_of_token_action token_action.Place = record { takes = []; gives = 3 }
signature_of_token_action token_action.Name = record { takes = []; gives = 6 }
signature_of_token_action token_action.Declared = record { takes = []; gives = 4 }
signature_of_token_action token_action.Integer = record { takes = []; gives = 17 }
signature_of_token_action token_action.Character = record { takes = []; gives = 17 }
signature_of_token_action token_action.True = record { takes = []; gives = 17 }
signature_of_token_action token_action.False = record { takes = []; gives = 17 }
signature_of_token_action token_action.Static = record { takes = []; gives = 8 }
signature_of_token_action (token_action.Type integer_type) = record { takes = []; gives = 7 }
signature_of_token_action (token_action.Sign word) = record { takes = []; gives = 23 }
signature_of_token_action (token_action.Unary operator) = record { takes = []; gives = 41 }
signature_of_token_action (token_action.Binary operator) = record { takes = []; gives = 42 }
signature_of_token_action (token_action.Assignment operator) = record { takes = []; gives = 38 }
signature_of_token_action (token_action.Step operator) = record { takes = []; gives = 39 }

abbrev signature_of_expression_action : ExpressionAction → Signature
signature_of_expression_action expression_action.Object = record { takes = 6 ∷ []; gives = 40 }
signature_of_expression_action expression_action.AddPathMember = record { takes = 6 ∷ 40 ∷ []; gives = 40 }
signature_of_expression_action expression_action.Path = record { takes = 40 ∷ []; gives = 37 }
signature_of_expression_action expression_action.Element = record { takes = 17 ∷ 3 ∷ 40 ∷ []; gives = 37 }
signature_of_expression_action expression_action.NoExpressions = record { takes = []; gives = 22 }
signature_of_expression_action expression_action.OneExpression = record { takes = 17 ∷ []; gives = 22 }
signature_of_expression_action expression_action.AddExpression = record { takes = 17 ∷ 22 ∷ []; gives = 22 }
signature_of_expression_action expression_action.NoExpression = record { takes = []; gives = 29 }
signature_of_expression_action expression_action.SomeExpression = record { takes = 17 ∷ []; gives = 29 }
signature_of_expression_action expression_action.Read = record { takes = 37 ∷ []; gives = 17 }
signature_of_expression_action expression_action.Parentheses = record { takes = 17 ∷ 3 ∷ []; gives = 17 }
signature_of_expression_action expression_action.Unary = record { takes = 17 ∷ 41 ∷ []; gives = 17 }
signature_of_expression_action expression_action.Cast = record { takes = 17 ∷ 7 ∷ 3 ∷ []; gives = 17 }
signature_of_expression_action expression_action.Binary = record { takes = 17 ∷ 42 ∷ 17 ∷ []; gives = 17 }
signature_of_expression_action expression_action.Conditional = record { takes = 17 ∷ 17 ∷ 3 ∷ 17 ∷ []; gives = 17 }

abbrev signature_of_declaration_action : DeclarationAction → Signature
signature_of_declaration_action declaration_action.CharType = record { takes = 23 ∷ []; gives = 7 }
signature_of_declaration_action declaration_action.ShortType = record { takes = 23 ∷ []; gives = 7 }
signature_of_declaration_action declaration_action.IntType = record { takes = 23 ∷ []; gives = 7 }
signature_of_declaration_action declaration_action.LongType = record { takes = 23 ∷ []; gives = 7 }
signature_of_declaration_action declaration_action.Value = record { takes = 17 ∷ []; gives = 21 }
signature_of_declaration_action declaration_action.CallValue = record { takes = 22 ∷ 6 ∷ []; gives = 21 }
signature_of_declaration_action declaration_action.NoInitializer = record { takes = []; gives = 32 }
signature_of_declaration_action declaration_action.SomeInitializer = record { takes = 21 ∷ []; gives = 32 }
signature_of_declaration_action declaration_action.PlainDeclarator = record { takes = 6 ∷ []; gives = 20 }
signature_of_declaration_action declaration_action.Initialized = record { takes = 21 ∷ 6 ∷ []; gives = 20 }
signature_of_declaration_action declaration_action.ArrayDeclarator = record { takes = 17 ∷ 6 ∷ []; gives = 20 }
signature_of_declaration_action declaration_action.InitializedArray = record { takes = 22 ∷ 17 ∷ 6 ∷ []; gives = 20 }
signature_of_declaration_action declaration_action.OneDeclarator = record { takes = 20 ∷ []; gives = 12 }
signature_of_declaration_action declaration_action.AddDeclarator = record { takes = 20 ∷ 12 ∷ []; gives = 12 }
signature_of_declaration_action declaration_action.Local = record { takes = 12 ∷ 7 ∷ []; gives = 25 }
signature_of_declaration_action declaration_action.ConstLocal = record { takes = 12 ∷ 7 ∷ 3 ∷ []; gives = 25 }
signature_of_declaration_action declaration_action.PlainItem = record { takes = 6 ∷ []; gives = 16 }
signature_of_declaration_action declaration_action.ArrayItem = record { takes = 17 ∷ 6 ∷ []; gives = 16 }
signature_of_declaration_action declaration_action.OneItem = record { takes = 16 ∷ []; gives = 14 }
signature_of_declaration_action declaration_action.AddItem = record { takes = 16 ∷ 14 ∷ []; gives = 14 }
signature_of_declaration_action declaration_action.OneName = record { takes = 4 ∷ []; gives = 15 }
signature_of_declaration_action declaration_action.AddName = record { takes = 4 ∷ 15 ∷ []; gives = 15 }
signature_of_declaration_action declaration_action.IntegerMembers = record { takes = 14 ∷ 7 ∷ []; gives = 13 }
signature_of_declaration_action declaration_action.StructMembers = record { takes = 15 ∷ 6 ∷ 3 ∷ []; gives = 13 }
signature_of_declaration_action declaration_action.OneMember = record { takes = 13 ∷ []; gives = 5 }
signature_of_declaration_action declaration_action.AddMember = record { takes = 13 ∷ 5 ∷ []; gives = 5 }
signature_of_declaration_action declaration_action.NoName = record { takes = []; gives = 19 }
signature_of_declaration_action declaration_action.SomeName = record { takes = 4 ∷ []; gives = 19 }
signature_of_declaration_action declaration_action.Parameter = record { takes = 19 ∷ 7 ∷ []; gives = 18 }
signature_of_declaration_action declaration_action.ConstParameter = record { takes = 19 ∷ 7 ∷ 3 ∷ []; gives = 18 }
signature_of_declaration_action declaration_action.NoParameters = record { takes = []; gives = 10 }
signature_of_declaration_action declaration_action.OneParameter = record { takes = 18 ∷ []; gives = 10 }
signature_of_declaration_action declaration_action.AddParameter = record { takes = 18 ∷ 10 ∷ []; gives = 10 }

abbrev signature_of_statement_action : StatementAction → Signature
signature_of_statement_action statement_action.Call = record { takes = 22 ∷ 6 ∷ []; gives = 27 }
signature_of_statement_action statement_action.Assign = record { takes = 21 ∷ 37 ∷ []; gives = 27 }
signature_of_statement_action statement_action.Update = record { takes = 17 ∷ 38 ∷ 37 ∷ []; gives = 27 }
signature_of_statement_action statement_action.StepAfter = record { takes = 39 ∷ 37 ∷ []; gives = 27 }
signature_of_statement_action statement_action.StepBefore = record { takes = 37 ∷ 39 ∷ []; gives = 27 }
signature_of_statement_action statement_action.NoSimple = record { takes = []; gives = 30 }
signature_of_statement_action statement_action.SomeSimple = record { takes = 27 ∷ []; gives = 30 }
signature_of_statement_action statement_action.ForNothing = record { takes = []; gives = 28 }
signature_of_statement_action statement_action.ForLocal = record { takes = 25 ∷ []; gives = 28 }
signature_of_statement_action statement_action.ForSimple = record { takes = 27 ∷ []; gives = 28 }
signature_of_statement_action statement_action.Case = record { takes = 17 ∷ 3 ∷ []; gives = 34 }
signature_of_statement_action statement_action.Default = record { takes = 3 ∷ []; gives = 34 }
signature_of_statement_action statement_action.FirstLabel = record { takes = 34 ∷ []; gives = 35 }
signature_of_statement_action statement_action.AddLabel = record { takes = 34 ∷ 35 ∷ []; gives = 35 }
signature_of_statement_action statement_action.Labelled = record { takes = 35 ∷ []; gives = 36 }
signature_of_statement_action statement_action.AddToGroup = record { takes = 26 ∷ 36 ∷ []; gives = 36 }
signature_of_statement_action statement_action.Group = record { takes = 36 ∷ []; gives = 33 }
signature_of_statement_action statement_action.NoGroups = record { takes = []; gives = 31 }
signature_of_statement_action statement_action.AddGroup = record { takes = 33 ∷ 31 ∷ []; gives = 31 }
signature_of_statement_action statement_action.NoItems = record { takes = []; gives = 24 }
signature_of_statement_action statement_action.AddLocal = record { takes = 25 ∷ 24 ∷ []; gives = 24 }
signature_of_statement_action statement_action.AddStatement = record { takes = 26 ∷ 24 ∷ []; gives = 24 }
signature_of_statement_action statement_action.Block = record { takes = 24 ∷ 3 ∷ []; gives = 11 }
signature_of_statement_action statement_action.Compound = record { takes = 11 ∷ []; gives = 26 }
signature_of_statement_action statement_action.Empty = record { takes = 3 ∷ []; gives = 26 }
signature_of_statement_action statement_action.Simple = record { takes = 27 ∷ []; gives = 26 }
signature_of_statement_action statement_action.IfAlone = record { takes = 26 ∷ 17 ∷ 3 ∷ []; gives = 26 }
signature_of_statement_action statement_action.IfElse = record { takes = 26 ∷ 26 ∷ 17 ∷ 3 ∷ []; gives = 26 }
signature_of_statement_action statement_action.While = record { takes = 26 ∷ 17 ∷ 3 ∷ []; gives = 26 }
signature_of_statement_action statement_action.Do = record { takes = 17 ∷ 26 ∷ 3 ∷ []; gives = 26 }
signature_of_statement_action statement_action.For = record { takes = 26 ∷ 30 ∷ 29 ∷ 28 ∷ 3 ∷ []; gives = 26 }
signature_of_statement_action statement_action.Switch = record { takes = 31 ∷ 17 ∷ 3 ∷ []; gives = 26 }
signature_of_statement_action statement_action.Break = record { takes = 3 ∷ []; gives = 26 }
signature_of_statement_action statement_action.Continue = record { takes = 3 ∷ []; gives = 26 }
signature_of_statement_action statement_action.Return = record { takes = 32 ∷ 3 ∷ []; gives = 26 }
signature_of_statement_action statement_action.Assert = record { takes = 17 ∷ 3 ∷ []; gives = 26 }
signature_of_statement_action statement_action.CproverAssert = record { takes = 17 ∷ 3 ∷ []; gives = 26 }
signature_of_statement_action statement_action.CproverAssume = record { takes = 17 ∷ 3 ∷ []; gives = 26 }

abbrev signature_of_file_action : FileAction → Signature
signature_of_file_action file_action.NoStorage = record { takes = []; gives = 8 }
signature_of_file_action file_action.Extern = record { takes = 3 ∷ []; gives = 8 }
signature_of_file_action file_action.FunctionName = record { takes = 6 ∷ []; gives = 4 }
signature_of_file_action file_action.VoidFunction = record { takes = 4 ∷ 3 ∷ []; gives = 9 }
signature_of_file_action file_action.IntegerFunction = record { takes = 4 ∷ 7 ∷ []; gives = 9 }
signature_of_file_action file_action.Function = record { takes = 10 ∷ 9 ∷ 8 ∷ []; gives = 2 }
signature_of_file_action file_action.Definition = record { takes = 11 ∷ 10 ∷ 9 ∷ 8 ∷ []; gives = 2 }
signature_of_file_action file_action.Globals = record { takes = 12 ∷ 7 ∷ 8 ∷ []; gives = 2 }
signature_of_file_action file_action.ConstGlobals = record { takes = 12 ∷ 7 ∷ 3 ∷ 8 ∷ []; gives = 2 }
signature_of_file_action file_action.Struct = record { takes = 5 ∷ 4 ∷ 3 ∷ []; gives = 2 }
signature_of_file_action file_action.Mirror = record { takes = 4 ∷ 6 ∷ 3 ∷ []; gives = 2 }
signature_of_file_action file_action.Bound = record { takes = 4 ∷ 7 ∷ 3 ∷ []; gives = 2 }
signature_of_file_action file_action.NoExternals = record { takes = []; gives = 0 }
signature_of_file_action file_action.OneExternal = record { takes = 2 ∷ []; gives = 0 }
signature_of_file_action file_action.AddExternal = record { takes = 2 ∷ 0 ∷ []; gives = 0 }
signature_of_file_action file_action.File = record { takes = 0 ∷ []; gives = 1 }

abbrev pub signature : Action → Signature
signature (action.Token a) = signature_of_token_action a
signature (action.Expression a) = signature_of_expression_action a
signature (action.Declaration a) = signature_of_declaration_action a
signature (action.Statement a) = signature_of_statement_action a
signature (action.File a) = signature_of_file_action a

signatures : map signature ACTIONS ≡ SIGNATURES
unfolding SIGNATURES
signatures = refl

pub signature_at : (n : ℕ) → signature_of SIGNATURES n ≡ signature (action_of n)
signature_at n =
    ap (λ gs. slice_index_or gs n (record { takes = []; gives = 0 })) (sym signatures) ∙ get_or-map signature ACTIONS n (action.File file_action.NoExternals)

fit_token_action : (a : TokenAction) (place : Place) (spelling : List ℕ) (st : Values) (rest : List ℕ) → sorts_of st ≡ (signature_of_token_action a).takes ++ rest → Makes (signature_of_token_action a).gives rest st (after_token_action a place spelling st)
fit_token_action token_action.Place place spelling st rest e = fit_place place st rest e
fit_token_action token_action.Name place spelling st rest e = fit_name place spelling st rest e
fit_token_action token_action.Declared place spelling st rest e = fit_declared place spelling st rest e
fit_token_action token_action.Integer place spelling st rest e = fit_integer place spelling st rest e
fit_token_action token_action.Character place spelling st rest e = fit_character place spelling st rest e
fit_token_action token_action.True place spelling st rest e = fit_true place st rest e
fit_token_action token_action.False place spelling st rest e = fit_false place st rest e
fit_token_action token_action.Static place spelling st rest e = fit_static place st rest e
fit_token_action (token_action.Type integer_type) place spelling st rest e = fit_word_type integer_type place st rest e
fit_token_action (token_action.Sign word) place spelling st rest e = fit_sign word place st rest e
fit_token_action (token_action.Unary operator) place spelling st rest e = fit_unary_mark operator place st rest e
fit_token_action (token_action.Binary operator) place spelling st rest e = fit_binary_mark operator place st rest e
fit_token_action (token_action.Assignment operator) place spelling st rest e = fit_assignment_mark operator place st rest e
fit_token_action (token_action.Step operator) place spelling st rest e = fit_step_mark operator place st rest e

fit_expression_action : (a : ExpressionAction) (st : Values) (rest : List ℕ) → sorts_of st ≡ (signature_of_expression_action a).takes ++ rest → Makes (signature_of_expression_action a).gives rest st (after_expression_action a st)
fit_expression_action expression_action.Object st rest e = fit_object st rest e
fit_expression_action expression_action.AddPathMember st rest e = fit_add_path_member st rest e
fit_expression_action expression_action.Path st rest e = fit_path st rest e
fit_expression_action expression_action.Element st rest e = fit_element st rest e
fit_expression_action expression_action.NoExpressions st rest e = fit_no_expressions st rest e
fit_expression_action expression_action.OneExpression st rest e = fit_one_expression st rest e
fit_expression_action expression_action.AddExpression st rest e = fit_add_expression st rest e
fit_expression_action expression_action.NoExpression st rest e = fit_no_expression st rest e
fit_expression_action expression_action.SomeExpression st rest e = fit_some_expression st rest e
fit_expression_action expression_action.Read st rest e = fit_read st rest e
fit_expression_action expression_action.Parentheses st rest e = fit_parentheses st rest e
fit_expression_action expression_action.Unary st rest e = fit_unary st rest e
fit_expression_action expression_action.Cast st rest e = fit_cast st rest e
fit_expression_action expression_action.Binary st rest e = fit_binary st rest e
fit_expression_action expression_action.Conditional st rest e = fit_conditional st rest e

fit_declaration_action : (a : DeclarationAction) (st : Values) (rest : List ℕ) → sorts_of st ≡ (signature_of_declaration_action a).takes ++ rest → Makes (signature_of_declaration_action a).gives rest st (after_declaration_action a st)
fit_declaration_action declaration_action.CharType st rest e = fit_char_type st rest e
fit_declaration_action declaration_action.ShortType st rest e = fit_short_type st rest e
fit_declaration_action declaration_action.IntType st rest e = fit_int_type st rest e
fit_declaration_action declaration_action.LongType st rest e = fit_long_type st rest e
fit_declaration_action declaration_action.Value st rest e = fit_value st rest e
fit_declaration_action declaration_action.CallValue st rest e = fit_call_value st rest e
fit_declaration_action declaration_action.NoInitializer st rest e = fit_no_initializer st rest e
fit_declaration_action declaration_action.SomeInitializer st rest e = fit_some_initializer st rest e
fit_declaration_action declaration_action.PlainDeclarator st rest e = fit_plain_declarator st rest e
fit_declaration_action declaration_action.Initialized st rest e = fit_initialized st rest e
fit_declaration_action declaration_action.ArrayDeclarator st rest e = fit_array_declarator st rest e
fit_declaration_action declaration_action.InitializedArray st rest e = fit_initialized_array st rest e
fit_declaration_action declaration_action.OneDeclarator st rest e = fit_one_declarator st rest e
fit_declaration_action declaration_action.AddDeclarator st rest e = fit_add_declarator st rest e
fit_declaration_action declaration_action.Local st rest e = fit_local st rest e
fit_declaration_action declaration_action.ConstLocal st rest e = fit_const_local st rest e
fit_declaration_action declaration_action.PlainItem st rest e = fit_plain_item st rest e
fit_declaration_action declaration_action.ArrayItem st rest e = fit_array_item st rest e
fit_declaration_action declaration_action.OneItem st rest e = fit_one_item st rest e
fit_declaration_action declaration_action.AddItem st rest e = fit_add_item st rest e
fit_declaration_action declaration_action.OneName st rest e = fit_one_name st rest e
fit_declaration_action declaration_action.AddName st rest e = fit_add_name st rest e
fit_declaration_action declaration_action.IntegerMembers st rest e = fit_integer_members st rest e
fit_declaration_action declaration_action.StructMembers st rest e = fit_struct_members st rest e
fit_declaration_action declaration_action.OneMember st rest e = fit_one_member st rest e
fit_declaration_action declaration_action.AddMember st rest e = fit_add_member st rest e
fit_declaration_action declaration_action.NoName st rest e = fit_no_name st rest e
fit_declaration_action declaration_action.SomeName st rest e = fit_some_name st rest e
fit_declaration_action declaration_action.Parameter st rest e = fit_parameter st rest e
fit_declaration_action declaration_action.ConstParameter st rest e = fit_const_parameter st rest e
fit_declaration_action declaration_action.NoParameters st rest e = fit_no_parameters st rest e
fit_declaration_action declaration_action.OneParameter st rest e = fit_one_parameter st rest e
fit_declaration_action declaration_action.AddParameter st rest e = fit_add_parameter st rest e

fit_statement_action : (a : StatementAction) (st : Values) (rest : List ℕ) → sorts_of st ≡ (signature_of_statement_action a).takes ++ rest → Makes (signature_of_statement_action a).gives rest st (after_statement_action a st)
fit_statement_action statement_action.Call st rest e = fit_call st rest e
fit_statement_action statement_action.Assign st rest e = fit_assign st rest e
fit_statement_action statement_action.Update st rest e = fit_update st rest e
fit_statement_action statement_action.StepAfter st rest e = fit_step_after st rest e
fit_statement_action statement_action.StepBefore st rest e = fit_step_before st rest e
fit_statement_action statement_action.NoSimple st rest e = fit_no_simple st rest e
fit_statement_action statement_action.SomeSimple st rest e = fit_some_simple st rest e
fit_statement_action statement_action.ForNothing st rest e = fit_for_nothing st rest e
fit_statement_action statement_action.ForLocal st rest e = fit_for_local st rest e
fit_statement_action statement_action.ForSimple st rest e = fit_for_simple st rest e
fit_statement_action statement_action.Case st rest e = fit_case st rest e
fit_statement_action statement_action.Default st rest e = fit_default st rest e
fit_statement_action statement_action.FirstLabel st rest e = fit_first_label st rest e
fit_statement_action statement_action.AddLabel st rest e = fit_add_label st rest e
fit_statement_action statement_action.Labelled st rest e = fit_labelled st rest e
fit_statement_action statement_action.AddToGroup st rest e = fit_add_to_group st rest e
fit_statement_action statement_action.Group st rest e = fit_group st rest e
fit_statement_action statement_action.NoGroups st rest e = fit_no_groups st rest e
fit_statement_action statement_action.AddGroup st rest e = fit_add_group st rest e
fit_statement_action statement_action.NoItems st rest e = fit_no_items st rest e
fit_statement_action statement_action.AddLocal st rest e = fit_add_local st rest e
fit_statement_action statement_action.AddStatement st rest e = fit_add_statement st rest e
fit_statement_action statement_action.Block st rest e = fit_block st rest e
fit_statement_action statement_action.Compound st rest e = fit_compound st rest e
fit_statement_action statement_action.Empty st rest e = fit_empty st rest e
fit_statement_action statement_action.Simple st rest e = fit_simple st rest e
fit_statement_action statement_action.IfAlone st rest e = fit_if_alone st rest e
fit_statement_action statement_action.IfElse st rest e = fit_if_else st rest e
fit_statement_action statement_action.While st rest e = fit_while st rest e
fit_statement_action statement_action.Do st rest e = fit_do st rest e
fit_statement_action statement_action.For st rest e = fit_for st rest e
fit_statement_action statement_action.Switch st rest e = fit_switch st rest e
fit_statement_action statement_action.Break st rest e = fit_break st rest e
fit_statement_action statement_action.Continue st rest e = fit_continue st rest e
fit_statement_action statement_action.Return st rest e = fit_return st rest e
fit_statement_action statement_action.Assert st rest e = fit_assert st rest e
fit_statement_action statement_action.CproverAssert st rest e = fit_cprover_assert st rest e
fit_statement_action statement_action.CproverAssume st rest e = fit_cprover_assume st rest e

fit_file_action : (a : FileAction) (end : Place) (st : Values) (rest : List ℕ) → sorts_of st ≡ (signature_of_file_action a).takes ++ rest → Makes (signature_of_file_action a).gives rest st (after_file_action a end st)
fit_file_action file_action.NoStorage end st rest e = fit_no_storage st rest e
fit_file_action file_action.Extern end st rest e = fit_extern st rest e
fit_file_action file_action.FunctionName end st rest e = fit_function_name st rest e
fit_file_action file_action.VoidFunction end st rest e = fit_void_function st rest e
fit_file_action file_action.IntegerFunction end st rest e = fit_integer_function st rest e
fit_file_action file_action.Function end st rest e = fit_function st rest e
fit_file_action file_action.Definition end st rest e = fit_definition st rest e
fit_file_action file_action.Globals end st rest e = fit_globals st rest e
fit_file_action file_action.ConstGlobals end st rest e = fit_const_globals st rest e
fit_file_action file_action.Struct end st rest e = fit_struct st rest e
fit_file_action file_action.Mirror end st rest e = fit_mirror st rest e
fit_file_action file_action.Bound end st rest e = fit_bound st rest e
fit_file_action file_action.NoExternals end st rest e = fit_no_externals st rest e
fit_file_action file_action.OneExternal end st rest e = fit_one_external st rest e
fit_file_action file_action.AddExternal end st rest e = fit_add_external st rest e
fit_file_action file_action.File end st rest e = fit_file end st rest e

-- an action that finds the sorts that it takes gives a value of the sort that it gives
pub fit : (a : Action) (end place : Place) (spelling : List ℕ) (st : Values) (rest : List ℕ) → sorts_of st ≡ (signature a).takes ++ rest →
    Makes (signature a).gives rest st (after_action a end place spelling st)
fit (action.Token a) end place spelling st rest e = fit_token_action a place spelling st rest e
fit (action.Expression a) end place spelling st rest e = fit_expression_action a st rest e
fit (action.Declaration a) end place spelling st rest e = fit_declaration_action a st rest e
fit (action.Statement a) end place spelling st rest e = fit_statement_action a st rest e
fit (action.File a) end place spelling st rest e = fit_file_action a end st rest e
