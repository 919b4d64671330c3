-- The values of declarations look as the weaves of their actions say.
use Rattle.std.proofs.Common.{◌≡◌, ℕ, List, ◌∷◌, refl}
use Rattle.src_text.specs.declared.refusal.Place.{Place}
use Rattle.src_text.specs.Trees.{all_trees, option_trees}
use Rattle.node_places.proofs.Beside.{end1, end2, in_one, more_trees, more_first, both}
use Rattle.node_places.proofs.Looks.{of_values}
use Rattle.c_tree.specs.Starts.{declarator_start, member_declarator_start, member_start, parameter_start}
use Rattle.c_tree.specs.Nodes.{expression_trees, initializer_trees, name_trees, declarator_trees, member_declarator_trees, member_trees, parameter_trees}
use Rattle.c_stack.specs.Values.{Values}
use Rattle.c_stack.specs.declared.values.Value.TheVariants as value
use Rattle.c_stack.specs.declared.values.TokenValue.TheVariants as token_value
use Rattle.c_stack.specs.declared.values.ExpressionValue.TheVariants as expression_value
use Rattle.c_stack.specs.declared.values.DeclarationValue.TheVariants as declaration_value
use Rattle.c_stack.specs.declared.values.PartValue.TheVariants as part_value
use Rattle.c_actions.specs.Sorts.{sorts_of}
use Rattle.c_actions.specs.DeclarationActions.{after_declaration_action}
use Rattle.c_actions.specs.declared.actions.DeclarationAction.TheVariants as declaration_action
use Rattle.c_actions.proofs.TopOfSort.{has_declarator, has_declarators, has_declared, has_expression, has_expressions, has_initializer, has_item, has_items, has_member, has_members, has_name, has_name_option, has_names, has_parameter, has_parameters, has_place, has_sign, has_type}
use Rattle.c_depth.proofs.Values.{name_start, looks_of, Looks}

pub look_char_type : (nothing : Place) (own : Place) (st : Values) (rest : List ℕ) → sorts_of st ≡ 23 ∷ rest → Looks nothing (of_values 1 0) own st (after_declaration_action declaration_action.CharType st)
look_char_type nothing own st rest e = has_sign (Looks nothing (of_values 1 0) own) _ st _ e (λ mark st1 e1. refl)

pub look_short_type : (nothing : Place) (own : Place) (st : Values) (rest : List ℕ) → sorts_of st ≡ 23 ∷ rest → Looks nothing (of_values 1 0) own st (after_declaration_action declaration_action.ShortType st)
look_short_type nothing own st rest e = has_sign (Looks nothing (of_values 1 0) own) _ st _ e (λ mark st1 e1. refl)

pub look_int_type : (nothing : Place) (own : Place) (st : Values) (rest : List ℕ) → sorts_of st ≡ 23 ∷ rest → Looks nothing (of_values 1 0) own st (after_declaration_action declaration_action.IntType st)
look_int_type nothing own st rest e = has_sign (Looks nothing (of_values 1 0) own) _ st _ e (λ mark st1 e1. refl)

pub look_long_type : (nothing : Place) (own : Place) (st : Values) (rest : List ℕ) → sorts_of st ≡ 23 ∷ rest → Looks nothing (of_values 1 0) own st (after_declaration_action declaration_action.LongType st)
look_long_type nothing own st rest e = has_sign (Looks nothing (of_values 1 0) own) _ st _ e (λ mark st1 e1. refl)

pub look_value : (nothing : Place) (own : Place) (st : Values) (rest : List ℕ) → sorts_of st ≡ 17 ∷ rest → Looks nothing (of_values 1 0) own st (after_declaration_action declaration_action.Value st)
look_value nothing own st rest e = has_expression (Looks nothing (of_values 1 0) own) _ st _ e (λ expression st1 e1. both (looks_of nothing st1) refl (end1 (expression_trees expression)))

pub look_call_value : (nothing : Place) (own : Place) (st : Values) (rest : List ℕ) → sorts_of st ≡ 22 ∷ 6 ∷ rest → Looks nothing (of_values 2 1) own st (after_declaration_action declaration_action.CallValue st)
look_call_value nothing own st rest e = has_expressions (Looks nothing (of_values 2 1) own) _ st _ e (λ arguments st1 e1. has_name (λ s o. Looks nothing (of_values 2 1) own (value.Expression (expression_value.Expressions arguments) ∷ s) o) _ st1 _ e1 (λ name st2 e2. both (looks_of nothing st2) refl (in_one name.place (end1 (all_trees expression_trees arguments)))))

pub look_no_initializer : (nothing : Place) (own : Place) (st : Values) (rest : List ℕ) → sorts_of st ≡ rest → Looks nothing (of_values 0 0) own st (after_declaration_action declaration_action.NoInitializer st)
look_no_initializer nothing own st rest e = refl

pub look_some_initializer : (nothing : Place) (own : Place) (st : Values) (rest : List ℕ) → sorts_of st ≡ 21 ∷ rest → Looks nothing (of_values 1 0) own st (after_declaration_action declaration_action.SomeInitializer st)
look_some_initializer nothing own st rest e = has_initializer (Looks nothing (of_values 1 0) own) _ st _ e (λ given st1 e1. both (looks_of nothing st1) refl (end1 (initializer_trees given)))

pub look_plain_declarator : (nothing : Place) (own : Place) (st : Values) (rest : List ℕ) → sorts_of st ≡ 6 ∷ rest → Looks nothing (of_values 1 1) own st (after_declaration_action declaration_action.PlainDeclarator st)
look_plain_declarator nothing own st rest e = has_name (Looks nothing (of_values 1 1) own) _ st _ e (λ name st1 e1. refl)

pub look_initialized : (nothing : Place) (own : Place) (st : Values) (rest : List ℕ) → sorts_of st ≡ 21 ∷ 6 ∷ rest → Looks nothing (of_values 2 1) own st (after_declaration_action declaration_action.Initialized st)
look_initialized nothing own st rest e = has_initializer (Looks nothing (of_values 2 1) own) _ st _ e (λ given st1 e1. has_name (λ s o. Looks nothing (of_values 2 1) own (value.Expression (expression_value.Initializer given) ∷ s) o) _ st1 _ e1 (λ name st2 e2. both (looks_of nothing st2) refl (in_one name.place (end1 (initializer_trees given)))))

pub look_array_declarator : (nothing : Place) (own : Place) (st : Values) (rest : List ℕ) → sorts_of st ≡ 17 ∷ 6 ∷ rest → Looks nothing (of_values 2 1) own st (after_declaration_action declaration_action.ArrayDeclarator st)
look_array_declarator nothing own st rest e = has_expression (Looks nothing (of_values 2 1) own) _ st _ e (λ len st1 e1. has_name (λ s o. Looks nothing (of_values 2 1) own (value.Expression (expression_value.Expression len) ∷ s) o) _ st1 _ e1 (λ name st2 e2. both (looks_of nothing st2) refl (in_one name.place (end1 (expression_trees len)))))

pub look_initialized_array : (nothing : Place) (own : Place) (st : Values) (rest : List ℕ) → sorts_of st ≡ 22 ∷ 17 ∷ 6 ∷ rest → Looks nothing (of_values 3 1) own st (after_declaration_action declaration_action.InitializedArray st)
look_initialized_array nothing own st rest e = has_expressions (Looks nothing (of_values 3 1) own) _ st _ e (λ elements st1 e1. has_expression (λ s o. Looks nothing (of_values 3 1) own (value.Expression (expression_value.Expressions elements) ∷ s) o) _ st1 _ e1 (λ len st2 e2. has_name (λ s o. Looks nothing (of_values 3 1) own (value.Expression (expression_value.Expressions elements) ∷ value.Expression (expression_value.Expression len) ∷ s) o) _ st2 _ e2 (λ name st3 e3. both (looks_of nothing st3) refl (in_one name.place (end2 (expression_trees len) (all_trees expression_trees elements))))))

pub look_one_declarator : (nothing : Place) (own : Place) (st : Values) (rest : List ℕ) → sorts_of st ≡ 20 ∷ rest → Looks nothing (of_values 1 0) own st (after_declaration_action declaration_action.OneDeclarator st)
look_one_declarator nothing own st rest e = has_declarator (Looks nothing (of_values 1 0) own) _ st _ e (λ declarator_made st1 e1. refl)

pub look_add_declarator : (nothing : Place) (own : Place) (st : Values) (rest : List ℕ) → sorts_of st ≡ 20 ∷ 12 ∷ rest → Looks nothing (of_values 2 0) own st (after_declaration_action declaration_action.AddDeclarator st)
look_add_declarator nothing own st rest e = has_declarator (Looks nothing (of_values 2 0) own) _ st _ e (λ declarator_made st1 e1. has_declarators (λ s o. Looks nothing (of_values 2 0) own (value.Declaration (declaration_value.Declarator declarator_made) ∷ s) o) _ st1 _ e1 (λ declarators st2 e2. both (looks_of nothing st2) (more_first declarator_start declarators declarator_made) (more_trees declarator_trees declarators declarator_made)))

pub look_local : (nothing : Place) (own : Place) (st : Values) (rest : List ℕ) → sorts_of st ≡ 12 ∷ 7 ∷ rest → Looks nothing (of_values 2 0) own st (after_declaration_action declaration_action.Local st)
look_local nothing own st rest e = has_declarators (Looks nothing (of_values 2 0) own) _ st _ e (λ declarators st1 e1. has_type (λ s o. Looks nothing (of_values 2 0) own (value.Declaration (declaration_value.Declarators declarators) ∷ s) o) _ st1 _ e1 (λ type_name st2 e2. both (looks_of nothing st2) refl (end1 (all_trees declarator_trees declarators))))

pub look_const_local : (nothing : Place) (own : Place) (st : Values) (rest : List ℕ) → sorts_of st ≡ 12 ∷ 7 ∷ 3 ∷ rest → Looks nothing (of_values 3 0) own st (after_declaration_action declaration_action.ConstLocal st)
look_const_local nothing own st rest e = has_declarators (Looks nothing (of_values 3 0) own) _ st _ e (λ declarators st1 e1. has_type (λ s o. Looks nothing (of_values 3 0) own (value.Declaration (declaration_value.Declarators declarators) ∷ s) o) _ st1 _ e1 (λ type_name st2 e2. has_place (λ s o. Looks nothing (of_values 3 0) own (value.Declaration (declaration_value.Declarators declarators) ∷ value.Expression (expression_value.Type type_name) ∷ s) o) _ st2 _ e2 (λ place st3 e3. both (looks_of nothing st3) refl (end1 (all_trees declarator_trees declarators)))))

pub look_plain_item : (nothing : Place) (own : Place) (st : Values) (rest : List ℕ) → sorts_of st ≡ 6 ∷ rest → Looks nothing (of_values 1 1) own st (after_declaration_action declaration_action.PlainItem st)
look_plain_item nothing own st rest e = has_name (Looks nothing (of_values 1 1) own) _ st _ e (λ name st1 e1. refl)

pub look_array_item : (nothing : Place) (own : Place) (st : Values) (rest : List ℕ) → sorts_of st ≡ 17 ∷ 6 ∷ rest → Looks nothing (of_values 2 1) own st (after_declaration_action declaration_action.ArrayItem st)
look_array_item nothing own st rest e = has_expression (Looks nothing (of_values 2 1) own) _ st _ e (λ len st1 e1. has_name (λ s o. Looks nothing (of_values 2 1) own (value.Expression (expression_value.Expression len) ∷ s) o) _ st1 _ e1 (λ name st2 e2. both (looks_of nothing st2) refl (in_one name.place (end1 (expression_trees len)))))

pub look_one_item : (nothing : Place) (own : Place) (st : Values) (rest : List ℕ) → sorts_of st ≡ 16 ∷ rest → Looks nothing (of_values 1 0) own st (after_declaration_action declaration_action.OneItem st)
look_one_item nothing own st rest e = has_item (Looks nothing (of_values 1 0) own) _ st _ e (λ item st1 e1. refl)

pub look_add_item : (nothing : Place) (own : Place) (st : Values) (rest : List ℕ) → sorts_of st ≡ 16 ∷ 14 ∷ rest → Looks nothing (of_values 2 0) own st (after_declaration_action declaration_action.AddItem st)
look_add_item nothing own st rest e = has_item (Looks nothing (of_values 2 0) own) _ st _ e (λ item st1 e1. has_items (λ s o. Looks nothing (of_values 2 0) own (value.Declaration (declaration_value.Item item) ∷ s) o) _ st1 _ e1 (λ items st2 e2. both (looks_of nothing st2) (more_first member_declarator_start items item) (more_trees member_declarator_trees items item)))

pub look_one_name : (nothing : Place) (own : Place) (st : Values) (rest : List ℕ) → sorts_of st ≡ 4 ∷ rest → Looks nothing (of_values 1 0) own st (after_declaration_action declaration_action.OneName st)
look_one_name nothing own st rest e = has_declared (Looks nothing (of_values 1 0) own) _ st _ e (λ name st1 e1. refl)

pub look_add_name : (nothing : Place) (own : Place) (st : Values) (rest : List ℕ) → sorts_of st ≡ 4 ∷ 15 ∷ rest → Looks nothing (of_values 2 0) own st (after_declaration_action declaration_action.AddName st)
look_add_name nothing own st rest e = has_declared (Looks nothing (of_values 2 0) own) _ st _ e (λ name st1 e1. has_names (λ s o. Looks nothing (of_values 2 0) own (value.Token (token_value.Declared name) ∷ s) o) _ st1 _ e1 (λ names st2 e2. both (looks_of nothing st2) (more_first name_start names name) (more_trees name_trees names name)))

pub look_integer_members : (nothing : Place) (own : Place) (st : Values) (rest : List ℕ) → sorts_of st ≡ 14 ∷ 7 ∷ rest → Looks nothing (of_values 2 0) own st (after_declaration_action declaration_action.IntegerMembers st)
look_integer_members nothing own st rest e = has_items (Looks nothing (of_values 2 0) own) _ st _ e (λ items st1 e1. has_type (λ s o. Looks nothing (of_values 2 0) own (value.Declaration (declaration_value.Items items) ∷ s) o) _ st1 _ e1 (λ type_name st2 e2. both (looks_of nothing st2) refl (end1 (all_trees member_declarator_trees items))))

pub look_struct_members : (nothing : Place) (own : Place) (st : Values) (rest : List ℕ) → sorts_of st ≡ 15 ∷ 6 ∷ 3 ∷ rest → Looks nothing (of_values 3 0) own st (after_declaration_action declaration_action.StructMembers st)
look_struct_members nothing own st rest e = has_names (Looks nothing (of_values 3 0) own) _ st _ e (λ names st1 e1. has_name (λ s o. Looks nothing (of_values 3 0) own (value.Declaration (declaration_value.Names names) ∷ s) o) _ st1 _ e1 (λ tag st2 e2. has_place (λ s o. Looks nothing (of_values 3 0) own (value.Declaration (declaration_value.Names names) ∷ value.Token (token_value.Name tag) ∷ s) o) _ st2 _ e2 (λ place st3 e3. both (looks_of nothing st3) refl (end1 (all_trees name_trees names)))))

pub look_one_member : (nothing : Place) (own : Place) (st : Values) (rest : List ℕ) → sorts_of st ≡ 13 ∷ rest → Looks nothing (of_values 1 0) own st (after_declaration_action declaration_action.OneMember st)
look_one_member nothing own st rest e = has_member (Looks nothing (of_values 1 0) own) _ st _ e (λ member_made st1 e1. refl)

pub look_add_member : (nothing : Place) (own : Place) (st : Values) (rest : List ℕ) → sorts_of st ≡ 13 ∷ 5 ∷ rest → Looks nothing (of_values 2 0) own st (after_declaration_action declaration_action.AddMember st)
look_add_member nothing own st rest e = has_member (Looks nothing (of_values 2 0) own) _ st _ e (λ member_made st1 e1. has_members (λ s o. Looks nothing (of_values 2 0) own (value.Part (part_value.Member member_made) ∷ s) o) _ st1 _ e1 (λ members st2 e2. both (looks_of nothing st2) (more_first member_start members member_made) (more_trees member_trees members member_made)))

pub look_no_name : (nothing : Place) (own : Place) (st : Values) (rest : List ℕ) → sorts_of st ≡ rest → Looks nothing (of_values 0 0) own st (after_declaration_action declaration_action.NoName st)
look_no_name nothing own st rest e = refl

pub look_some_name : (nothing : Place) (own : Place) (st : Values) (rest : List ℕ) → sorts_of st ≡ 4 ∷ rest → Looks nothing (of_values 1 0) own st (after_declaration_action declaration_action.SomeName st)
look_some_name nothing own st rest e = has_declared (Looks nothing (of_values 1 0) own) _ st _ e (λ name st1 e1. refl)

pub look_parameter : (nothing : Place) (own : Place) (st : Values) (rest : List ℕ) → sorts_of st ≡ 19 ∷ 7 ∷ rest → Looks nothing (of_values 2 0) own st (after_declaration_action declaration_action.Parameter st)
look_parameter nothing own st rest e = has_name_option (Looks nothing (of_values 2 0) own) _ st _ e (λ name st1 e1. has_type (λ s o. Looks nothing (of_values 2 0) own (value.Declaration (declaration_value.NameOption name) ∷ s) o) _ st1 _ e1 (λ type_name st2 e2. both (looks_of nothing st2) refl (end1 (option_trees name_trees name))))

pub look_const_parameter : (nothing : Place) (own : Place) (st : Values) (rest : List ℕ) → sorts_of st ≡ 19 ∷ 7 ∷ 3 ∷ rest → Looks nothing (of_values 3 0) own st (after_declaration_action declaration_action.ConstParameter st)
look_const_parameter nothing own st rest e = has_name_option (Looks nothing (of_values 3 0) own) _ st _ e (λ name st1 e1. has_type (λ s o. Looks nothing (of_values 3 0) own (value.Declaration (declaration_value.NameOption name) ∷ s) o) _ st1 _ e1 (λ type_name st2 e2. has_place (λ s o. Looks nothing (of_values 3 0) own (value.Declaration (declaration_value.NameOption name) ∷ value.Expression (expression_value.Type type_name) ∷ s) o) _ st2 _ e2 (λ place st3 e3. both (looks_of nothing st3) refl (end1 (option_trees name_trees name)))))

pub look_no_parameters : (nothing : Place) (own : Place) (st : Values) (rest : List ℕ) → sorts_of st ≡ rest → Looks nothing (of_values 0 0) own st (after_declaration_action declaration_action.NoParameters st)
look_no_parameters nothing own st rest e = refl

pub look_one_parameter : (nothing : Place) (own : Place) (st : Values) (rest : List ℕ) → sorts_of st ≡ 18 ∷ rest → Looks nothing (of_values 1 0) own st (after_declaration_action declaration_action.OneParameter st)
look_one_parameter nothing own st rest e = has_parameter (Looks nothing (of_values 1 0) own) _ st _ e (λ parameter st1 e1. refl)

pub look_add_parameter : (nothing : Place) (own : Place) (st : Values) (rest : List ℕ) → sorts_of st ≡ 18 ∷ 10 ∷ rest → Looks nothing (of_values 2 0) own st (after_declaration_action declaration_action.AddParameter st)
look_add_parameter nothing own st rest e = has_parameter (Looks nothing (of_values 2 0) own) _ st _ e (λ parameter st1 e1. has_parameters (λ s o. Looks nothing (of_values 2 0) own (value.Part (part_value.Parameter parameter) ∷ s) o) _ st1 _ e1 (λ parameters st2 e2. both (looks_of nothing st2) (more_first parameter_start parameters parameter) (more_trees parameter_trees parameters parameter)))
