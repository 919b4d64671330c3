-- Each action finds its values where the sorts say so, and gives a value of its own sort.
use Rattle.std.proofs.Common.{◌≡◌, ℕ, List, ◌∷◌, Option, Some, None, ap}
use Rattle.src_text.specs.declared.refusal.Place.{Place}
use Rattle.c_tree.specs.declared.declarations.IntegerType.{IntegerType}
use Rattle.c_tree.specs.declared.declarations.Sign.{Sign}
use Rattle.c_tree.specs.declared.expressions.AssignmentOperator.{AssignmentOperator}
use Rattle.c_tree.specs.declared.expressions.BinaryOperator.{BinaryOperator}
use Rattle.c_tree.specs.declared.expressions.StepOperator.{StepOperator}
use Rattle.c_tree.specs.declared.expressions.UnaryOperator.{UnaryOperator}
use Rattle.c_actions.specs.TokenActions.{after_place, after_name, after_declared, after_integer, after_character, after_true, after_false, after_static, after_word_type, after_sign, after_unary_mark, after_binary_mark, after_assignment_mark, after_step_mark}
use Rattle.c_actions.specs.ExpressionActions.{after_expression_action}
use Rattle.c_actions.specs.declared.actions.ExpressionAction.TheVariants as expression_action
use Rattle.c_actions.specs.DeclarationActions.{after_declaration_action}
use Rattle.c_actions.specs.declared.actions.DeclarationAction.TheVariants as declaration_action
use Rattle.c_actions.specs.StatementActions.{after_statement_action}
use Rattle.c_actions.specs.declared.actions.StatementAction.TheVariants as statement_action
use Rattle.c_actions.specs.FileActions.{after_no_storage, after_extern, after_function_name, after_void_function, after_integer_function, after_function, after_definition, after_globals, after_const_globals, after_struct, after_mirror, after_bound, after_no_externals, after_one_external, after_add_external, after_file}
use Rattle.c_stack.specs.Values.{Values}
use Rattle.c_actions.specs.Sorts.{sorts_of}
use Rattle.c_actions.proofs.TopOfSort.{has_externals, has_external, has_place, has_declared, has_members, has_name, has_type, has_storage, has_function, has_parameters, has_block, has_declarators, has_member, has_items, has_names, has_item, has_expression, has_parameter, has_name_option, has_declarator, has_initializer, has_expressions, has_sign, has_parts, has_local, has_statement, has_simple, has_for_first, has_expression_option, has_simple_option, has_groups, has_initializer_option, has_group, has_label, has_labels, has_labelled, has_path, has_assignment_mark, has_step_mark, has_object, has_unary_mark, has_binary_mark}

-- what is left is a stack whose top is of this sort
abbrev pub Makes : ℕ → List ℕ → Values → Option Values → Type 0
Makes sort rest st None = ⊥
Makes sort rest st (Some new) = sorts_of new ≡ sort ∷ rest

done : (sort : ℕ) {xs ys : List ℕ} → xs ≡ ys → sort ∷ xs ≡ sort ∷ ys
done sort e = ap (λ zs. sort ∷ zs) e

pub fit_place : (place : Place) (st : Values) (rest : List ℕ) → sorts_of st ≡ rest → Makes 3 rest st (after_place place st)
fit_place place st rest e = done 3 e

pub fit_name : (place : Place) (spelling : List ℕ) (st : Values) (rest : List ℕ) → sorts_of st ≡ rest → Makes 6 rest st (after_name place spelling st)
fit_name place spelling st rest e = done 6 e

pub fit_declared : (place : Place) (spelling : List ℕ) (st : Values) (rest : List ℕ) → sorts_of st ≡ rest → Makes 4 rest st (after_declared place spelling st)
fit_declared place spelling st rest e = done 4 e

pub fit_integer : (place : Place) (spelling : List ℕ) (st : Values) (rest : List ℕ) → sorts_of st ≡ rest → Makes 17 rest st (after_integer place spelling st)
fit_integer place spelling st rest e = done 17 e

pub fit_character : (place : Place) (spelling : List ℕ) (st : Values) (rest : List ℕ) → sorts_of st ≡ rest → Makes 17 rest st (after_character place spelling st)
fit_character place spelling st rest e = done 17 e

pub fit_true : (place : Place) (st : Values) (rest : List ℕ) → sorts_of st ≡ rest → Makes 17 rest st (after_true place st)
fit_true place st rest e = done 17 e

pub fit_false : (place : Place) (st : Values) (rest : List ℕ) → sorts_of st ≡ rest → Makes 17 rest st (after_false place st)
fit_false place st rest e = done 17 e

pub fit_static : (place : Place) (st : Values) (rest : List ℕ) → sorts_of st ≡ rest → Makes 8 rest st (after_static place st)
fit_static place st rest e = done 8 e

pub fit_word_type : (integer_type : IntegerType) (place : Place) (st : Values) (rest : List ℕ) → sorts_of st ≡ rest → Makes 7 rest st (after_word_type integer_type place st)
fit_word_type integer_type place st rest e = done 7 e

pub fit_sign : (word : Sign) (place : Place) (st : Values) (rest : List ℕ) → sorts_of st ≡ rest → Makes 23 rest st (after_sign word place st)
fit_sign word place st rest e = done 23 e

pub fit_unary_mark : (operator : UnaryOperator) (place : Place) (st : Values) (rest : List ℕ) → sorts_of st ≡ rest → Makes 41 rest st (after_unary_mark operator place st)
fit_unary_mark operator place st rest e = done 41 e

pub fit_binary_mark : (operator : BinaryOperator) (place : Place) (st : Values) (rest : List ℕ) → sorts_of st ≡ rest → Makes 42 rest st (after_binary_mark operator place st)
fit_binary_mark operator place st rest e = done 42 e

pub fit_assignment_mark : (operator : AssignmentOperator) (place : Place) (st : Values) (rest : List ℕ) → sorts_of st ≡ rest → Makes 38 rest st (after_assignment_mark operator place st)
fit_assignment_mark operator place st rest e = done 38 e

pub fit_step_mark : (operator : StepOperator) (place : Place) (st : Values) (rest : List ℕ) → sorts_of st ≡ rest → Makes 39 rest st (after_step_mark operator place st)
fit_step_mark operator place st rest e = done 39 e

pub fit_object : (st : Values) (rest : List ℕ) → sorts_of st ≡ 6 ∷ rest → Makes 40 rest st (after_expression_action expression_action.Object st)
fit_object st rest e = has_name (Makes 40 rest) _ st _ e (λ name st1 e1. done 40 e1)

pub fit_add_path_member : (st : Values) (rest : List ℕ) → sorts_of st ≡ 6 ∷ 40 ∷ rest → Makes 40 rest st (after_expression_action expression_action.AddPathMember st)
fit_add_path_member st rest e = has_name (Makes 40 rest) _ st _ e (λ name st1 e1. has_object (Makes 40 rest) _ st1 _ e1 (λ object st2 e2. done 40 e2))

pub fit_path : (st : Values) (rest : List ℕ) → sorts_of st ≡ 40 ∷ rest → Makes 37 rest st (after_expression_action expression_action.Path st)
fit_path st rest e = has_object (Makes 37 rest) _ st _ e (λ object st1 e1. done 37 e1)

pub fit_element : (st : Values) (rest : List ℕ) → sorts_of st ≡ 17 ∷ 3 ∷ 40 ∷ rest → Makes 37 rest st (after_expression_action expression_action.Element st)
fit_element st rest e = has_expression (Makes 37 rest) _ st _ e (λ index st1 e1. has_place (Makes 37 rest) _ st1 _ e1 (λ place st2 e2. has_object (Makes 37 rest) _ st2 _ e2 (λ object st3 e3. done 37 e3)))

pub fit_no_expressions : (st : Values) (rest : List ℕ) → sorts_of st ≡ rest → Makes 22 rest st (after_expression_action expression_action.NoExpressions st)
fit_no_expressions st rest e = done 22 e

pub fit_one_expression : (st : Values) (rest : List ℕ) → sorts_of st ≡ 17 ∷ rest → Makes 22 rest st (after_expression_action expression_action.OneExpression st)
fit_one_expression st rest e = has_expression (Makes 22 rest) _ st _ e (λ expression st1 e1. done 22 e1)

pub fit_add_expression : (st : Values) (rest : List ℕ) → sorts_of st ≡ 17 ∷ 22 ∷ rest → Makes 22 rest st (after_expression_action expression_action.AddExpression st)
fit_add_expression st rest e = has_expression (Makes 22 rest) _ st _ e (λ expression st1 e1. has_expressions (Makes 22 rest) _ st1 _ e1 (λ expressions st2 e2. done 22 e2))

pub fit_no_expression : (st : Values) (rest : List ℕ) → sorts_of st ≡ rest → Makes 29 rest st (after_expression_action expression_action.NoExpression st)
fit_no_expression st rest e = done 29 e

pub fit_some_expression : (st : Values) (rest : List ℕ) → sorts_of st ≡ 17 ∷ rest → Makes 29 rest st (after_expression_action expression_action.SomeExpression st)
fit_some_expression st rest e = has_expression (Makes 29 rest) _ st _ e (λ expression st1 e1. done 29 e1)

pub fit_read : (st : Values) (rest : List ℕ) → sorts_of st ≡ 37 ∷ rest → Makes 17 rest st (after_expression_action expression_action.Read st)
fit_read st rest e = has_path (Makes 17 rest) _ st _ e (λ path_read st1 e1. done 17 e1)

pub fit_parentheses : (st : Values) (rest : List ℕ) → sorts_of st ≡ 17 ∷ 3 ∷ rest → Makes 17 rest st (after_expression_action expression_action.Parentheses st)
fit_parentheses st rest e = has_expression (Makes 17 rest) _ st _ e (λ inside st1 e1. has_place (Makes 17 rest) _ st1 _ e1 (λ place st2 e2. done 17 e2))

pub fit_unary : (st : Values) (rest : List ℕ) → sorts_of st ≡ 17 ∷ 41 ∷ rest → Makes 17 rest st (after_expression_action expression_action.Unary st)
fit_unary st rest e = has_expression (Makes 17 rest) _ st _ e (λ operand st1 e1. has_unary_mark (Makes 17 rest) _ st1 _ e1 (λ mark st2 e2. done 17 e2))

pub fit_cast : (st : Values) (rest : List ℕ) → sorts_of st ≡ 17 ∷ 7 ∷ 3 ∷ rest → Makes 17 rest st (after_expression_action expression_action.Cast st)
fit_cast st rest e = has_expression (Makes 17 rest) _ st _ e (λ operand st1 e1. has_type (Makes 17 rest) _ st1 _ e1 (λ type_name st2 e2. has_place (Makes 17 rest) _ st2 _ e2 (λ place st3 e3. done 17 e3)))

pub fit_binary : (st : Values) (rest : List ℕ) → sorts_of st ≡ 17 ∷ 42 ∷ 17 ∷ rest → Makes 17 rest st (after_expression_action expression_action.Binary st)
fit_binary st rest e = has_expression (Makes 17 rest) _ st _ e (λ right st1 e1. has_binary_mark (Makes 17 rest) _ st1 _ e1 (λ mark st2 e2. has_expression (Makes 17 rest) _ st2 _ e2 (λ left st3 e3. done 17 e3)))

pub fit_conditional : (st : Values) (rest : List ℕ) → sorts_of st ≡ 17 ∷ 17 ∷ 3 ∷ 17 ∷ rest → Makes 17 rest st (after_expression_action expression_action.Conditional st)
fit_conditional st rest e = has_expression (Makes 17 rest) _ st _ e (λ second st1 e1. has_expression (Makes 17 rest) _ st1 _ e1 (λ first st2 e2. has_place (Makes 17 rest) _ st2 _ e2 (λ place st3 e3. has_expression (Makes 17 rest) _ st3 _ e3 (λ condition st4 e4. done 17 e4))))

pub fit_char_type : (st : Values) (rest : List ℕ) → sorts_of st ≡ 23 ∷ rest → Makes 7 rest st (after_declaration_action declaration_action.CharType st)
fit_char_type st rest e = has_sign (Makes 7 rest) _ st _ e (λ mark st1 e1. done 7 e1)

pub fit_short_type : (st : Values) (rest : List ℕ) → sorts_of st ≡ 23 ∷ rest → Makes 7 rest st (after_declaration_action declaration_action.ShortType st)
fit_short_type st rest e = has_sign (Makes 7 rest) _ st _ e (λ mark st1 e1. done 7 e1)

pub fit_int_type : (st : Values) (rest : List ℕ) → sorts_of st ≡ 23 ∷ rest → Makes 7 rest st (after_declaration_action declaration_action.IntType st)
fit_int_type st rest e = has_sign (Makes 7 rest) _ st _ e (λ mark st1 e1. done 7 e1)

pub fit_long_type : (st : Values) (rest : List ℕ) → sorts_of st ≡ 23 ∷ rest → Makes 7 rest st (after_declaration_action declaration_action.LongType st)
fit_long_type st rest e = has_sign (Makes 7 rest) _ st _ e (λ mark st1 e1. done 7 e1)

pub fit_value : (st : Values) (rest : List ℕ) → sorts_of st ≡ 17 ∷ rest → Makes 21 rest st (after_declaration_action declaration_action.Value st)
fit_value st rest e = has_expression (Makes 21 rest) _ st _ e (λ expression st1 e1. done 21 e1)

pub fit_call_value : (st : Values) (rest : List ℕ) → sorts_of st ≡ 22 ∷ 6 ∷ rest → Makes 21 rest st (after_declaration_action declaration_action.CallValue st)
fit_call_value st rest e = has_expressions (Makes 21 rest) _ st _ e (λ arguments st1 e1. has_name (Makes 21 rest) _ st1 _ e1 (λ name st2 e2. done 21 e2))

pub fit_no_initializer : (st : Values) (rest : List ℕ) → sorts_of st ≡ rest → Makes 32 rest st (after_declaration_action declaration_action.NoInitializer st)
fit_no_initializer st rest e = done 32 e

pub fit_some_initializer : (st : Values) (rest : List ℕ) → sorts_of st ≡ 21 ∷ rest → Makes 32 rest st (after_declaration_action declaration_action.SomeInitializer st)
fit_some_initializer st rest e = has_initializer (Makes 32 rest) _ st _ e (λ given st1 e1. done 32 e1)

pub fit_plain_declarator : (st : Values) (rest : List ℕ) → sorts_of st ≡ 6 ∷ rest → Makes 20 rest st (after_declaration_action declaration_action.PlainDeclarator st)
fit_plain_declarator st rest e = has_name (Makes 20 rest) _ st _ e (λ name st1 e1. done 20 e1)

pub fit_initialized : (st : Values) (rest : List ℕ) → sorts_of st ≡ 21 ∷ 6 ∷ rest → Makes 20 rest st (after_declaration_action declaration_action.Initialized st)
fit_initialized st rest e = has_initializer (Makes 20 rest) _ st _ e (λ given st1 e1. has_name (Makes 20 rest) _ st1 _ e1 (λ name st2 e2. done 20 e2))

pub fit_array_declarator : (st : Values) (rest : List ℕ) → sorts_of st ≡ 17 ∷ 6 ∷ rest → Makes 20 rest st (after_declaration_action declaration_action.ArrayDeclarator st)
fit_array_declarator st rest e = has_expression (Makes 20 rest) _ st _ e (λ len st1 e1. has_name (Makes 20 rest) _ st1 _ e1 (λ name st2 e2. done 20 e2))

pub fit_initialized_array : (st : Values) (rest : List ℕ) → sorts_of st ≡ 22 ∷ 17 ∷ 6 ∷ rest → Makes 20 rest st (after_declaration_action declaration_action.InitializedArray st)
fit_initialized_array st rest e = has_expressions (Makes 20 rest) _ st _ e (λ elements st1 e1. has_expression (Makes 20 rest) _ st1 _ e1 (λ len st2 e2. has_name (Makes 20 rest) _ st2 _ e2 (λ name st3 e3. done 20 e3)))

pub fit_one_declarator : (st : Values) (rest : List ℕ) → sorts_of st ≡ 20 ∷ rest → Makes 12 rest st (after_declaration_action declaration_action.OneDeclarator st)
fit_one_declarator st rest e = has_declarator (Makes 12 rest) _ st _ e (λ declarator_made st1 e1. done 12 e1)

pub fit_add_declarator : (st : Values) (rest : List ℕ) → sorts_of st ≡ 20 ∷ 12 ∷ rest → Makes 12 rest st (after_declaration_action declaration_action.AddDeclarator st)
fit_add_declarator st rest e = has_declarator (Makes 12 rest) _ st _ e (λ declarator_made st1 e1. has_declarators (Makes 12 rest) _ st1 _ e1 (λ declarators st2 e2. done 12 e2))

pub fit_local : (st : Values) (rest : List ℕ) → sorts_of st ≡ 12 ∷ 7 ∷ rest → Makes 25 rest st (after_declaration_action declaration_action.Local st)
fit_local st rest e = has_declarators (Makes 25 rest) _ st _ e (λ declarators st1 e1. has_type (Makes 25 rest) _ st1 _ e1 (λ type_name st2 e2. done 25 e2))

pub fit_const_local : (st : Values) (rest : List ℕ) → sorts_of st ≡ 12 ∷ 7 ∷ 3 ∷ rest → Makes 25 rest st (after_declaration_action declaration_action.ConstLocal st)
fit_const_local st rest e = has_declarators (Makes 25 rest) _ st _ e (λ declarators st1 e1. has_type (Makes 25 rest) _ st1 _ e1 (λ type_name st2 e2. has_place (Makes 25 rest) _ st2 _ e2 (λ place st3 e3. done 25 e3)))

pub fit_plain_item : (st : Values) (rest : List ℕ) → sorts_of st ≡ 6 ∷ rest → Makes 16 rest st (after_declaration_action declaration_action.PlainItem st)
fit_plain_item st rest e = has_name (Makes 16 rest) _ st _ e (λ name st1 e1. done 16 e1)

pub fit_array_item : (st : Values) (rest : List ℕ) → sorts_of st ≡ 17 ∷ 6 ∷ rest → Makes 16 rest st (after_declaration_action declaration_action.ArrayItem st)
fit_array_item st rest e = has_expression (Makes 16 rest) _ st _ e (λ len st1 e1. has_name (Makes 16 rest) _ st1 _ e1 (λ name st2 e2. done 16 e2))

pub fit_one_item : (st : Values) (rest : List ℕ) → sorts_of st ≡ 16 ∷ rest → Makes 14 rest st (after_declaration_action declaration_action.OneItem st)
fit_one_item st rest e = has_item (Makes 14 rest) _ st _ e (λ item st1 e1. done 14 e1)

pub fit_add_item : (st : Values) (rest : List ℕ) → sorts_of st ≡ 16 ∷ 14 ∷ rest → Makes 14 rest st (after_declaration_action declaration_action.AddItem st)
fit_add_item st rest e = has_item (Makes 14 rest) _ st _ e (λ item st1 e1. has_items (Makes 14 rest) _ st1 _ e1 (λ items st2 e2. done 14 e2))

pub fit_one_name : (st : Values) (rest : List ℕ) → sorts_of st ≡ 4 ∷ rest → Makes 15 rest st (after_declaration_action declaration_action.OneName st)
fit_one_name st rest e = has_declared (Makes 15 rest) _ st _ e (λ name st1 e1. done 15 e1)

pub fit_add_name : (st : Values) (rest : List ℕ) → sorts_of st ≡ 4 ∷ 15 ∷ rest → Makes 15 rest st (after_declaration_action declaration_action.AddName st)
fit_add_name st rest e = has_declared (Makes 15 rest) _ st _ e (λ name st1 e1. has_names (Makes 15 rest) _ st1 _ e1 (λ names st2 e2. done 15 e2))

pub fit_integer_members : (st : Values) (rest : List ℕ) → sorts_of st ≡ 14 ∷ 7 ∷ rest → Makes 13 rest st (after_declaration_action declaration_action.IntegerMembers st)
fit_integer_members st rest e = has_items (Makes 13 rest) _ st _ e (λ items st1 e1. has_type (Makes 13 rest) _ st1 _ e1 (λ type_name st2 e2. done 13 e2))

pub fit_struct_members : (st : Values) (rest : List ℕ) → sorts_of st ≡ 15 ∷ 6 ∷ 3 ∷ rest → Makes 13 rest st (after_declaration_action declaration_action.StructMembers st)
fit_struct_members st rest e = has_names (Makes 13 rest) _ st _ e (λ names st1 e1. has_name (Makes 13 rest) _ st1 _ e1 (λ tag st2 e2. has_place (Makes 13 rest) _ st2 _ e2 (λ place st3 e3. done 13 e3)))

pub fit_one_member : (st : Values) (rest : List ℕ) → sorts_of st ≡ 13 ∷ rest → Makes 5 rest st (after_declaration_action declaration_action.OneMember st)
fit_one_member st rest e = has_member (Makes 5 rest) _ st _ e (λ member_made st1 e1. done 5 e1)

pub fit_add_member : (st : Values) (rest : List ℕ) → sorts_of st ≡ 13 ∷ 5 ∷ rest → Makes 5 rest st (after_declaration_action declaration_action.AddMember st)
fit_add_member st rest e = has_member (Makes 5 rest) _ st _ e (λ member_made st1 e1. has_members (Makes 5 rest) _ st1 _ e1 (λ members st2 e2. done 5 e2))

pub fit_no_name : (st : Values) (rest : List ℕ) → sorts_of st ≡ rest → Makes 19 rest st (after_declaration_action declaration_action.NoName st)
fit_no_name st rest e = done 19 e

pub fit_some_name : (st : Values) (rest : List ℕ) → sorts_of st ≡ 4 ∷ rest → Makes 19 rest st (after_declaration_action declaration_action.SomeName st)
fit_some_name st rest e = has_declared (Makes 19 rest) _ st _ e (λ name st1 e1. done 19 e1)

pub fit_parameter : (st : Values) (rest : List ℕ) → sorts_of st ≡ 19 ∷ 7 ∷ rest → Makes 18 rest st (after_declaration_action declaration_action.Parameter st)
fit_parameter st rest e = has_name_option (Makes 18 rest) _ st _ e (λ name st1 e1. has_type (Makes 18 rest) _ st1 _ e1 (λ type_name st2 e2. done 18 e2))

pub fit_const_parameter : (st : Values) (rest : List ℕ) → sorts_of st ≡ 19 ∷ 7 ∷ 3 ∷ rest → Makes 18 rest st (after_declaration_action declaration_action.ConstParameter st)
fit_const_parameter st rest e = has_name_option (Makes 18 rest) _ st _ e (λ name st1 e1. has_type (Makes 18 rest) _ st1 _ e1 (λ type_name st2 e2. has_place (Makes 18 rest) _ st2 _ e2 (λ place st3 e3. done 18 e3)))

pub fit_no_parameters : (st : Values) (rest : List ℕ) → sorts_of st ≡ rest → Makes 10 rest st (after_declaration_action declaration_action.NoParameters st)
fit_no_parameters st rest e = done 10 e

pub fit_one_parameter : (st : Values) (rest : List ℕ) → sorts_of st ≡ 18 ∷ rest → Makes 10 rest st (after_declaration_action declaration_action.OneParameter st)
fit_one_parameter st rest e = has_parameter (Makes 10 rest) _ st _ e (λ parameter st1 e1. done 10 e1)

pub fit_add_parameter : (st : Values) (rest : List ℕ) → sorts_of st ≡ 18 ∷ 10 ∷ rest → Makes 10 rest st (after_declaration_action declaration_action.AddParameter st)
fit_add_parameter st rest e = has_parameter (Makes 10 rest) _ st _ e (λ parameter st1 e1. has_parameters (Makes 10 rest) _ st1 _ e1 (λ parameters st2 e2. done 10 e2))

pub fit_call : (st : Values) (rest : List ℕ) → sorts_of st ≡ 22 ∷ 6 ∷ rest → Makes 27 rest st (after_statement_action statement_action.Call st)
fit_call st rest e = has_expressions (Makes 27 rest) _ st _ e (λ arguments st1 e1. has_name (Makes 27 rest) _ st1 _ e1 (λ name st2 e2. done 27 e2))

pub fit_assign : (st : Values) (rest : List ℕ) → sorts_of st ≡ 21 ∷ 37 ∷ rest → Makes 27 rest st (after_statement_action statement_action.Assign st)
fit_assign st rest e = has_initializer (Makes 27 rest) _ st _ e (λ given st1 e1. has_path (Makes 27 rest) _ st1 _ e1 (λ target st2 e2. done 27 e2))

pub fit_update : (st : Values) (rest : List ℕ) → sorts_of st ≡ 17 ∷ 38 ∷ 37 ∷ rest → Makes 27 rest st (after_statement_action statement_action.Update st)
fit_update st rest e = has_expression (Makes 27 rest) _ st _ e (λ operand st1 e1. has_assignment_mark (Makes 27 rest) _ st1 _ e1 (λ mark st2 e2. has_path (Makes 27 rest) _ st2 _ e2 (λ target st3 e3. done 27 e3)))

pub fit_step_after : (st : Values) (rest : List ℕ) → sorts_of st ≡ 39 ∷ 37 ∷ rest → Makes 27 rest st (after_statement_action statement_action.StepAfter st)
fit_step_after st rest e = has_step_mark (Makes 27 rest) _ st _ e (λ mark st1 e1. has_path (Makes 27 rest) _ st1 _ e1 (λ target st2 e2. done 27 e2))

pub fit_step_before : (st : Values) (rest : List ℕ) → sorts_of st ≡ 37 ∷ 39 ∷ rest → Makes 27 rest st (after_statement_action statement_action.StepBefore st)
fit_step_before st rest e = has_path (Makes 27 rest) _ st _ e (λ target st1 e1. has_step_mark (Makes 27 rest) _ st1 _ e1 (λ mark st2 e2. done 27 e2))

pub fit_no_simple : (st : Values) (rest : List ℕ) → sorts_of st ≡ rest → Makes 30 rest st (after_statement_action statement_action.NoSimple st)
fit_no_simple st rest e = done 30 e

pub fit_some_simple : (st : Values) (rest : List ℕ) → sorts_of st ≡ 27 ∷ rest → Makes 30 rest st (after_statement_action statement_action.SomeSimple st)
fit_some_simple st rest e = has_simple (Makes 30 rest) _ st _ e (λ part st1 e1. done 30 e1)

pub fit_for_nothing : (st : Values) (rest : List ℕ) → sorts_of st ≡ rest → Makes 28 rest st (after_statement_action statement_action.ForNothing st)
fit_for_nothing st rest e = done 28 e

pub fit_for_local : (st : Values) (rest : List ℕ) → sorts_of st ≡ 25 ∷ rest → Makes 28 rest st (after_statement_action statement_action.ForLocal st)
fit_for_local st rest e = has_local (Makes 28 rest) _ st _ e (λ part st1 e1. done 28 e1)

pub fit_for_simple : (st : Values) (rest : List ℕ) → sorts_of st ≡ 27 ∷ rest → Makes 28 rest st (after_statement_action statement_action.ForSimple st)
fit_for_simple st rest e = has_simple (Makes 28 rest) _ st _ e (λ part st1 e1. done 28 e1)

pub fit_case : (st : Values) (rest : List ℕ) → sorts_of st ≡ 17 ∷ 3 ∷ rest → Makes 34 rest st (after_statement_action statement_action.Case st)
fit_case st rest e = has_expression (Makes 34 rest) _ st _ e (λ given st1 e1. has_place (Makes 34 rest) _ st1 _ e1 (λ place st2 e2. done 34 e2))

pub fit_default : (st : Values) (rest : List ℕ) → sorts_of st ≡ 3 ∷ rest → Makes 34 rest st (after_statement_action statement_action.Default st)
fit_default st rest e = has_place (Makes 34 rest) _ st _ e (λ place st1 e1. done 34 e1)

pub fit_first_label : (st : Values) (rest : List ℕ) → sorts_of st ≡ 34 ∷ rest → Makes 35 rest st (after_statement_action statement_action.FirstLabel st)
fit_first_label st rest e = has_label (Makes 35 rest) _ st _ e (λ label_made st1 e1. done 35 e1)

pub fit_add_label : (st : Values) (rest : List ℕ) → sorts_of st ≡ 34 ∷ 35 ∷ rest → Makes 35 rest st (after_statement_action statement_action.AddLabel st)
fit_add_label st rest e = has_label (Makes 35 rest) _ st _ e (λ label_made st1 e1. has_labels (Makes 35 rest) _ st1 _ e1 (λ labels st2 e2. done 35 e2))

pub fit_labelled : (st : Values) (rest : List ℕ) → sorts_of st ≡ 35 ∷ rest → Makes 36 rest st (after_statement_action statement_action.Labelled st)
fit_labelled st rest e = has_labels (Makes 36 rest) _ st _ e (λ labels st1 e1. done 36 e1)

pub fit_add_to_group : (st : Values) (rest : List ℕ) → sorts_of st ≡ 26 ∷ 36 ∷ rest → Makes 36 rest st (after_statement_action statement_action.AddToGroup st)
fit_add_to_group st rest e = has_statement (Makes 36 rest) _ st _ e (λ part st1 e1. has_labelled (Makes 36 rest) _ st1 _ e1 (λ labelled st2 e2. done 36 e2))

pub fit_group : (st : Values) (rest : List ℕ) → sorts_of st ≡ 36 ∷ rest → Makes 33 rest st (after_statement_action statement_action.Group st)
fit_group st rest e = has_labelled (Makes 33 rest) _ st _ e (λ labelled st1 e1. done 33 e1)

pub fit_no_groups : (st : Values) (rest : List ℕ) → sorts_of st ≡ rest → Makes 31 rest st (after_statement_action statement_action.NoGroups st)
fit_no_groups st rest e = done 31 e

pub fit_add_group : (st : Values) (rest : List ℕ) → sorts_of st ≡ 33 ∷ 31 ∷ rest → Makes 31 rest st (after_statement_action statement_action.AddGroup st)
fit_add_group st rest e = has_group (Makes 31 rest) _ st _ e (λ group st1 e1. has_groups (Makes 31 rest) _ st1 _ e1 (λ groups st2 e2. done 31 e2))

pub fit_no_items : (st : Values) (rest : List ℕ) → sorts_of st ≡ rest → Makes 24 rest st (after_statement_action statement_action.NoItems st)
fit_no_items st rest e = done 24 e

pub fit_add_local : (st : Values) (rest : List ℕ) → sorts_of st ≡ 25 ∷ 24 ∷ rest → Makes 24 rest st (after_statement_action statement_action.AddLocal st)
fit_add_local st rest e = has_local (Makes 24 rest) _ st _ e (λ part st1 e1. has_parts (Makes 24 rest) _ st1 _ e1 (λ parts st2 e2. done 24 e2))

pub fit_add_statement : (st : Values) (rest : List ℕ) → sorts_of st ≡ 26 ∷ 24 ∷ rest → Makes 24 rest st (after_statement_action statement_action.AddStatement st)
fit_add_statement st rest e = has_statement (Makes 24 rest) _ st _ e (λ part st1 e1. has_parts (Makes 24 rest) _ st1 _ e1 (λ parts st2 e2. done 24 e2))

pub fit_block : (st : Values) (rest : List ℕ) → sorts_of st ≡ 24 ∷ 3 ∷ rest → Makes 11 rest st (after_statement_action statement_action.Block st)
fit_block st rest e = has_parts (Makes 11 rest) _ st _ e (λ items st1 e1. has_place (Makes 11 rest) _ st1 _ e1 (λ place st2 e2. done 11 e2))

pub fit_compound : (st : Values) (rest : List ℕ) → sorts_of st ≡ 11 ∷ rest → Makes 26 rest st (after_statement_action statement_action.Compound st)
fit_compound st rest e = has_block (Makes 26 rest) _ st _ e (λ part st1 e1. done 26 e1)

pub fit_empty : (st : Values) (rest : List ℕ) → sorts_of st ≡ 3 ∷ rest → Makes 26 rest st (after_statement_action statement_action.Empty st)
fit_empty st rest e = has_place (Makes 26 rest) _ st _ e (λ place st1 e1. done 26 e1)

pub fit_simple : (st : Values) (rest : List ℕ) → sorts_of st ≡ 27 ∷ rest → Makes 26 rest st (after_statement_action statement_action.Simple st)
fit_simple st rest e = has_simple (Makes 26 rest) _ st _ e (λ part st1 e1. done 26 e1)

pub fit_if_alone : (st : Values) (rest : List ℕ) → sorts_of st ≡ 26 ∷ 17 ∷ 3 ∷ rest → Makes 26 rest st (after_statement_action statement_action.IfAlone st)
fit_if_alone st rest e = has_statement (Makes 26 rest) _ st _ e (λ first st1 e1. has_expression (Makes 26 rest) _ st1 _ e1 (λ condition st2 e2. has_place (Makes 26 rest) _ st2 _ e2 (λ place st3 e3. done 26 e3)))

pub fit_if_else : (st : Values) (rest : List ℕ) → sorts_of st ≡ 26 ∷ 26 ∷ 17 ∷ 3 ∷ rest → Makes 26 rest st (after_statement_action statement_action.IfElse st)
fit_if_else st rest e = has_statement (Makes 26 rest) _ st _ e (λ second st1 e1. has_statement (Makes 26 rest) _ st1 _ e1 (λ first st2 e2. has_expression (Makes 26 rest) _ st2 _ e2 (λ condition st3 e3. has_place (Makes 26 rest) _ st3 _ e3 (λ place st4 e4. done 26 e4))))

pub fit_while : (st : Values) (rest : List ℕ) → sorts_of st ≡ 26 ∷ 17 ∷ 3 ∷ rest → Makes 26 rest st (after_statement_action statement_action.While st)
fit_while st rest e = has_statement (Makes 26 rest) _ st _ e (λ body st1 e1. has_expression (Makes 26 rest) _ st1 _ e1 (λ condition st2 e2. has_place (Makes 26 rest) _ st2 _ e2 (λ place st3 e3. done 26 e3)))

pub fit_do : (st : Values) (rest : List ℕ) → sorts_of st ≡ 17 ∷ 26 ∷ 3 ∷ rest → Makes 26 rest st (after_statement_action statement_action.Do st)
fit_do st rest e = has_expression (Makes 26 rest) _ st _ e (λ condition st1 e1. has_statement (Makes 26 rest) _ st1 _ e1 (λ body st2 e2. has_place (Makes 26 rest) _ st2 _ e2 (λ place st3 e3. done 26 e3)))

pub fit_for : (st : Values) (rest : List ℕ) → sorts_of st ≡ 26 ∷ 30 ∷ 29 ∷ 28 ∷ 3 ∷ rest → Makes 26 rest st (after_statement_action statement_action.For st)
fit_for st rest e = has_statement (Makes 26 rest) _ st _ e (λ body st1 e1. has_simple_option (Makes 26 rest) _ st1 _ e1 (λ step st2 e2. has_expression_option (Makes 26 rest) _ st2 _ e2 (λ condition st3 e3. has_for_first (Makes 26 rest) _ st3 _ e3 (λ first st4 e4. has_place (Makes 26 rest) _ st4 _ e4 (λ place st5 e5. done 26 e5)))))

pub fit_switch : (st : Values) (rest : List ℕ) → sorts_of st ≡ 31 ∷ 17 ∷ 3 ∷ rest → Makes 26 rest st (after_statement_action statement_action.Switch st)
fit_switch st rest e = has_groups (Makes 26 rest) _ st _ e (λ groups st1 e1. has_expression (Makes 26 rest) _ st1 _ e1 (λ given st2 e2. has_place (Makes 26 rest) _ st2 _ e2 (λ place st3 e3. done 26 e3)))

pub fit_break : (st : Values) (rest : List ℕ) → sorts_of st ≡ 3 ∷ rest → Makes 26 rest st (after_statement_action statement_action.Break st)
fit_break st rest e = has_place (Makes 26 rest) _ st _ e (λ place st1 e1. done 26 e1)

pub fit_continue : (st : Values) (rest : List ℕ) → sorts_of st ≡ 3 ∷ rest → Makes 26 rest st (after_statement_action statement_action.Continue st)
fit_continue st rest e = has_place (Makes 26 rest) _ st _ e (λ place st1 e1. done 26 e1)

pub fit_return : (st : Values) (rest : List ℕ) → sorts_of st ≡ 32 ∷ 3 ∷ rest → Makes 26 rest st (after_statement_action statement_action.Return st)
fit_return st rest e = has_initializer_option (Makes 26 rest) _ st _ e (λ given st1 e1. has_place (Makes 26 rest) _ st1 _ e1 (λ place st2 e2. done 26 e2))

pub fit_assert : (st : Values) (rest : List ℕ) → sorts_of st ≡ 17 ∷ 3 ∷ rest → Makes 26 rest st (after_statement_action statement_action.Assert st)
fit_assert st rest e = has_expression (Makes 26 rest) _ st _ e (λ condition st1 e1. has_place (Makes 26 rest) _ st1 _ e1 (λ place st2 e2. done 26 e2))

pub fit_cprover_assert : (st : Values) (rest : List ℕ) → sorts_of st ≡ 17 ∷ 3 ∷ rest → Makes 26 rest st (after_statement_action statement_action.CproverAssert st)
fit_cprover_assert st rest e = has_expression (Makes 26 rest) _ st _ e (λ condition st1 e1. has_place (Makes 26 rest) _ st1 _ e1 (λ place st2 e2. done 26 e2))

pub fit_cprover_assume : (st : Values) (rest : List ℕ) → sorts_of st ≡ 17 ∷ 3 ∷ rest → Makes 26 rest st (after_statement_action statement_action.CproverAssume st)
fit_cprover_assume st rest e = has_expression (Makes 26 rest) _ st _ e (λ condition st1 e1. has_place (Makes 26 rest) _ st1 _ e1 (λ place st2 e2. done 26 e2))

pub fit_no_storage : (st : Values) (rest : List ℕ) → sorts_of st ≡ rest → Makes 8 rest st (after_no_storage st)
fit_no_storage st rest e = done 8 e

pub fit_extern : (st : Values) (rest : List ℕ) → sorts_of st ≡ 3 ∷ rest → Makes 8 rest st (after_extern st)
fit_extern st rest e = has_place (Makes 8 rest) _ st _ e (λ place st1 e1. done 8 e1)

pub fit_function_name : (st : Values) (rest : List ℕ) → sorts_of st ≡ 6 ∷ rest → Makes 4 rest st (after_function_name st)
fit_function_name st rest e = has_name (Makes 4 rest) _ st _ e (λ name st1 e1. done 4 e1)

pub fit_void_function : (st : Values) (rest : List ℕ) → sorts_of st ≡ 4 ∷ 3 ∷ rest → Makes 9 rest st (after_void_function st)
fit_void_function st rest e = has_declared (Makes 9 rest) _ st _ e (λ name st1 e1. has_place (Makes 9 rest) _ st1 _ e1 (λ place st2 e2. done 9 e2))

pub fit_integer_function : (st : Values) (rest : List ℕ) → sorts_of st ≡ 4 ∷ 7 ∷ rest → Makes 9 rest st (after_integer_function st)
fit_integer_function st rest e = has_declared (Makes 9 rest) _ st _ e (λ name st1 e1. has_type (Makes 9 rest) _ st1 _ e1 (λ type_name st2 e2. done 9 e2))

pub fit_function : (st : Values) (rest : List ℕ) → sorts_of st ≡ 10 ∷ 9 ∷ 8 ∷ rest → Makes 2 rest st (after_function st)
fit_function st rest e = has_parameters (Makes 2 rest) _ st _ e (λ parameters st1 e1. has_function (Makes 2 rest) _ st1 _ e1 (λ function st2 e2. has_storage (Makes 2 rest) _ st2 _ e2 (λ class st3 e3. done 2 e3)))

pub fit_definition : (st : Values) (rest : List ℕ) → sorts_of st ≡ 11 ∷ 10 ∷ 9 ∷ 8 ∷ rest → Makes 2 rest st (after_definition st)
fit_definition st rest e = has_block (Makes 2 rest) _ st _ e (λ body st1 e1. has_parameters (Makes 2 rest) _ st1 _ e1 (λ parameters st2 e2. has_function (Makes 2 rest) _ st2 _ e2 (λ function st3 e3. has_storage (Makes 2 rest) _ st3 _ e3 (λ class st4 e4. done 2 e4))))

pub fit_globals : (st : Values) (rest : List ℕ) → sorts_of st ≡ 12 ∷ 7 ∷ 8 ∷ rest → Makes 2 rest st (after_globals st)
fit_globals st rest e = has_declarators (Makes 2 rest) _ st _ e (λ declarators st1 e1. has_type (Makes 2 rest) _ st1 _ e1 (λ type_name st2 e2. has_storage (Makes 2 rest) _ st2 _ e2 (λ class st3 e3. done 2 e3)))

pub fit_const_globals : (st : Values) (rest : List ℕ) → sorts_of st ≡ 12 ∷ 7 ∷ 3 ∷ 8 ∷ rest → Makes 2 rest st (after_const_globals st)
fit_const_globals st rest e = has_declarators (Makes 2 rest) _ st _ e (λ declarators st1 e1. has_type (Makes 2 rest) _ st1 _ e1 (λ type_name st2 e2. has_place (Makes 2 rest) _ st2 _ e2 (λ place st3 e3. has_storage (Makes 2 rest) _ st3 _ e3 (λ class st4 e4. done 2 e4))))

pub fit_struct : (st : Values) (rest : List ℕ) → sorts_of st ≡ 5 ∷ 4 ∷ 3 ∷ rest → Makes 2 rest st (after_struct st)
fit_struct st rest e = has_members (Makes 2 rest) _ st _ e (λ members st1 e1. has_declared (Makes 2 rest) _ st1 _ e1 (λ tag st2 e2. has_place (Makes 2 rest) _ st2 _ e2 (λ place st3 e3. done 2 e3)))

pub fit_mirror : (st : Values) (rest : List ℕ) → sorts_of st ≡ 4 ∷ 6 ∷ 3 ∷ rest → Makes 2 rest st (after_mirror st)
fit_mirror st rest e = has_declared (Makes 2 rest) _ st _ e (λ name st1 e1. has_name (Makes 2 rest) _ st1 _ e1 (λ tag st2 e2. has_place (Makes 2 rest) _ st2 _ e2 (λ place st3 e3. done 2 e3)))

pub fit_bound : (st : Values) (rest : List ℕ) → sorts_of st ≡ 4 ∷ 7 ∷ 3 ∷ rest → Makes 2 rest st (after_bound st)
fit_bound st rest e = has_declared (Makes 2 rest) _ st _ e (λ name st1 e1. has_type (Makes 2 rest) _ st1 _ e1 (λ type_name st2 e2. has_place (Makes 2 rest) _ st2 _ e2 (λ place st3 e3. done 2 e3)))

pub fit_no_externals : (st : Values) (rest : List ℕ) → sorts_of st ≡ rest → Makes 0 rest st (after_no_externals st)
fit_no_externals st rest e = done 0 e

pub fit_one_external : (st : Values) (rest : List ℕ) → sorts_of st ≡ 2 ∷ rest → Makes 0 rest st (after_one_external st)
fit_one_external st rest e = has_external (Makes 0 rest) _ st _ e (λ part st1 e1. done 0 e1)

pub fit_add_external : (st : Values) (rest : List ℕ) → sorts_of st ≡ 2 ∷ 0 ∷ rest → Makes 0 rest st (after_add_external st)
fit_add_external st rest e = has_external (Makes 0 rest) _ st _ e (λ part st1 e1. has_externals (Makes 0 rest) _ st1 _ e1 (λ externals st2 e2. done 0 e2))

pub fit_file : (end : Place) (st : Values) (rest : List ℕ) → sorts_of st ≡ 0 ∷ rest → Makes 1 rest st (after_file end st)
fit_file end st rest e = has_externals (Makes 1 rest) _ st _ e (λ externals st1 e1. done 1 e1)
