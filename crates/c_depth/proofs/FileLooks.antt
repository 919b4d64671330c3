-- The values of external declarations look as the weaves of their actions say.
use Rattle.std.proofs.Common.{◌≡◌, ℕ, List, ◌∷◌, refl}
use Rattle.src_text.specs.declared.refusal.Place.{Place}
use Rattle.src_text.specs.Trees.{leaf, all_trees}
use Rattle.node_places.proofs.Beside.{end1, end2, end3, in_one, more_trees, more_first, both, wrapped}
use Rattle.node_places.proofs.Looks.{of_values}
use Rattle.c_tree.specs.Starts.{result_start, external_start}
use Rattle.c_tree.specs.Nodes.{declarator_trees, block_trees, member_trees, parameter_trees, external_trees}
use Rattle.c_stack.specs.Values.{Values}
use Rattle.c_stack.specs.declared.values.Value.TheVariants as value
use Rattle.c_stack.specs.declared.values.TokenValue.TheVariants as token_value
use Rattle.c_stack.specs.declared.values.ExpressionValue.TheVariants as expression_value
use Rattle.c_stack.specs.declared.values.DeclarationValue.TheVariants as declaration_value
use Rattle.c_stack.specs.declared.values.PartValue.TheVariants as part_value
use Rattle.c_stack.specs.declared.values.StatementValue.TheVariants as statement_value
use Rattle.c_stack.specs.declared.values.FileValue.TheVariants as file_value
use Rattle.c_actions.specs.Sorts.{sorts_of}
use Rattle.c_actions.specs.FileActions.{after_no_storage, after_extern, after_function_name, after_void_function, after_integer_function, after_function, after_definition, after_globals, after_const_globals, after_struct, after_mirror, after_bound, after_no_externals, after_one_external, after_add_external, after_file}
use Rattle.c_actions.proofs.TopOfSort.{has_block, has_declarators, has_declared, has_external, has_externals, has_function, has_members, has_name, has_parameters, has_place, has_storage, has_type}
use Rattle.c_depth.proofs.Values.{looks_of, Looks}
use Rattle.c_depth.proofs.Begins.{storage_or, whole}

pub look_no_storage : (nothing : Place) (own : Place) (st : Values) (rest : List ℕ) → sorts_of st ≡ rest → Looks nothing (of_values 0 0) own st (after_no_storage st)
look_no_storage nothing own st rest e = refl

pub look_extern : (nothing : Place) (own : Place) (st : Values) (rest : List ℕ) → sorts_of st ≡ 3 ∷ rest → Looks nothing (of_values 1 0) own st (after_extern st)
look_extern nothing own st rest e = has_place (Looks nothing (of_values 1 0) own) _ st _ e (λ place st1 e1. refl)

pub look_function_name : (nothing : Place) (own : Place) (st : Values) (rest : List ℕ) → sorts_of st ≡ 6 ∷ rest → Looks nothing (of_values 1 1) own st (after_function_name st)
look_function_name nothing own st rest e = has_name (Looks nothing (of_values 1 1) own) _ st _ e (λ name st1 e1. refl)

pub look_void_function : (nothing : Place) (own : Place) (st : Values) (rest : List ℕ) → sorts_of st ≡ 4 ∷ 3 ∷ rest → Looks nothing (of_values 2 0) own st (after_void_function st)
look_void_function nothing own st rest e = has_declared (Looks nothing (of_values 2 0) own) _ st _ e (λ name st1 e1. has_place (λ s o. Looks nothing (of_values 2 0) own (value.Token (token_value.Declared name) ∷ s) o) _ st1 _ e1 (λ place st2 e2. refl))

pub look_integer_function : (nothing : Place) (own : Place) (st : Values) (rest : List ℕ) → sorts_of st ≡ 4 ∷ 7 ∷ rest → Looks nothing (of_values 2 0) own st (after_integer_function st)
look_integer_function nothing own st rest e = has_declared (Looks nothing (of_values 2 0) own) _ st _ e (λ name st1 e1. has_type (λ s o. Looks nothing (of_values 2 0) own (value.Token (token_value.Declared name) ∷ s) o) _ st1 _ e1 (λ type_name st2 e2. refl))

pub look_function : (nothing : Place) (own : Place) (st : Values) (rest : List ℕ) → sorts_of st ≡ 10 ∷ 9 ∷ 8 ∷ rest → Looks nothing (of_values 3 1) own st (after_function st)
look_function nothing own st rest e = has_parameters (Looks nothing (of_values 3 1) own) _ st _ e (λ parameters st1 e1. has_function (λ s o. Looks nothing (of_values 3 1) own (value.Part (part_value.Parameters parameters) ∷ s) o) _ st1 _ e1 (λ function st2 e2. has_storage (λ s o. Looks nothing (of_values 3 1) own (value.Part (part_value.Parameters parameters) ∷ value.Part (part_value.Function function) ∷ s) o) _ st2 _ e2 (λ class st3 e3. wrapped nothing (looks_of nothing st3) (storage_or class (result_start function.result)) (end2 (leaf function.name.place) (all_trees parameter_trees parameters)))))

pub look_definition : (nothing : Place) (own : Place) (st : Values) (rest : List ℕ) → sorts_of st ≡ 11 ∷ 10 ∷ 9 ∷ 8 ∷ rest → Looks nothing (of_values 4 1) own st (after_definition st)
look_definition nothing own st rest e = has_block (Looks nothing (of_values 4 1) own) _ st _ e (λ body st1 e1. has_parameters (λ s o. Looks nothing (of_values 4 1) own (value.Statement (statement_value.Block body) ∷ s) o) _ st1 _ e1 (λ parameters st2 e2. has_function (λ s o. Looks nothing (of_values 4 1) own (value.Statement (statement_value.Block body) ∷ value.Part (part_value.Parameters parameters) ∷ s) o) _ st2 _ e2 (λ function st3 e3. has_storage (λ s o. Looks nothing (of_values 4 1) own (value.Statement (statement_value.Block body) ∷ value.Part (part_value.Parameters parameters) ∷ value.Part (part_value.Function function) ∷ s) o) _ st3 _ e3 (λ class st4 e4. wrapped nothing (looks_of nothing st4) (storage_or class (result_start function.result)) (end3 (leaf function.name.place) (all_trees parameter_trees parameters) (block_trees body))))))

pub look_globals : (nothing : Place) (own : Place) (st : Values) (rest : List ℕ) → sorts_of st ≡ 12 ∷ 7 ∷ 8 ∷ rest → Looks nothing (of_values 3 1) own st (after_globals st)
look_globals nothing own st rest e = has_declarators (Looks nothing (of_values 3 1) own) _ st _ e (λ declarators st1 e1. has_type (λ s o. Looks nothing (of_values 3 1) own (value.Declaration (declaration_value.Declarators declarators) ∷ s) o) _ st1 _ e1 (λ type_name st2 e2. has_storage (λ s o. Looks nothing (of_values 3 1) own (value.Declaration (declaration_value.Declarators declarators) ∷ value.Expression (expression_value.Type type_name) ∷ s) o) _ st2 _ e2 (λ class st3 e3. wrapped nothing (looks_of nothing st3) (storage_or class type_name.place) (end1 (all_trees declarator_trees declarators)))))

pub look_const_globals : (nothing : Place) (own : Place) (st : Values) (rest : List ℕ) → sorts_of st ≡ 12 ∷ 7 ∷ 3 ∷ 8 ∷ rest → Looks nothing (of_values 4 1) own st (after_const_globals st)
look_const_globals nothing own st rest e = has_declarators (Looks nothing (of_values 4 1) own) _ st _ e (λ declarators st1 e1. has_type (λ s o. Looks nothing (of_values 4 1) own (value.Declaration (declaration_value.Declarators declarators) ∷ s) o) _ st1 _ e1 (λ type_name st2 e2. has_place (λ s o. Looks nothing (of_values 4 1) own (value.Declaration (declaration_value.Declarators declarators) ∷ value.Expression (expression_value.Type type_name) ∷ s) o) _ st2 _ e2 (λ place st3 e3. has_storage (λ s o. Looks nothing (of_values 4 1) own (value.Declaration (declaration_value.Declarators declarators) ∷ value.Expression (expression_value.Type type_name) ∷ value.Token (token_value.Place place) ∷ s) o) _ st3 _ e3 (λ class st4 e4. wrapped nothing (looks_of nothing st4) (storage_or class place) (end1 (all_trees declarator_trees declarators))))))

pub look_struct : (nothing : Place) (own : Place) (st : Values) (rest : List ℕ) → sorts_of st ≡ 5 ∷ 4 ∷ 3 ∷ rest → Looks nothing (of_values 3 1) own st (after_struct st)
look_struct nothing own st rest e = has_members (Looks nothing (of_values 3 1) own) _ st _ e (λ members st1 e1. has_declared (λ s o. Looks nothing (of_values 3 1) own (value.Part (part_value.Members members) ∷ s) o) _ st1 _ e1 (λ tag st2 e2. has_place (λ s o. Looks nothing (of_values 3 1) own (value.Part (part_value.Members members) ∷ value.Token (token_value.Declared tag) ∷ s) o) _ st2 _ e2 (λ place st3 e3. both (looks_of nothing st3) refl (in_one place (end2 (leaf tag.place) (all_trees member_trees members))))))

pub look_mirror : (nothing : Place) (own : Place) (st : Values) (rest : List ℕ) → sorts_of st ≡ 4 ∷ 6 ∷ 3 ∷ rest → Looks nothing (of_values 3 1) own st (after_mirror st)
look_mirror nothing own st rest e = has_declared (Looks nothing (of_values 3 1) own) _ st _ e (λ name st1 e1. has_name (λ s o. Looks nothing (of_values 3 1) own (value.Token (token_value.Declared name) ∷ s) o) _ st1 _ e1 (λ tag st2 e2. has_place (λ s o. Looks nothing (of_values 3 1) own (value.Token (token_value.Declared name) ∷ value.Token (token_value.Name tag) ∷ s) o) _ st2 _ e2 (λ place st3 e3. refl)))

pub look_bound : (nothing : Place) (own : Place) (st : Values) (rest : List ℕ) → sorts_of st ≡ 4 ∷ 7 ∷ 3 ∷ rest → Looks nothing (of_values 3 1) own st (after_bound st)
look_bound nothing own st rest e = has_declared (Looks nothing (of_values 3 1) own) _ st _ e (λ name st1 e1. has_type (λ s o. Looks nothing (of_values 3 1) own (value.Token (token_value.Declared name) ∷ s) o) _ st1 _ e1 (λ type_name st2 e2. has_place (λ s o. Looks nothing (of_values 3 1) own (value.Token (token_value.Declared name) ∷ value.Expression (expression_value.Type type_name) ∷ s) o) _ st2 _ e2 (λ place st3 e3. refl)))

pub look_no_externals : (nothing : Place) (own : Place) (st : Values) (rest : List ℕ) → sorts_of st ≡ rest → Looks nothing (of_values 0 0) own st (after_no_externals st)
look_no_externals nothing own st rest e = refl

pub look_one_external : (nothing : Place) (own : Place) (st : Values) (rest : List ℕ) → sorts_of st ≡ 2 ∷ rest → Looks nothing (of_values 1 0) own st (after_one_external st)
look_one_external nothing own st rest e = has_external (Looks nothing (of_values 1 0) own) _ st _ e (λ part st1 e1. refl)

pub look_add_external : (nothing : Place) (own : Place) (st : Values) (rest : List ℕ) → sorts_of st ≡ 2 ∷ 0 ∷ rest → Looks nothing (of_values 2 0) own st (after_add_external st)
look_add_external nothing own st rest e = has_external (Looks nothing (of_values 2 0) own) _ st _ e (λ part st1 e1. has_externals (λ s o. Looks nothing (of_values 2 0) own (value.File (file_value.External part) ∷ s) o) _ st1 _ e1 (λ externals st2 e2. both (looks_of nothing st2) (more_first external_start externals part) (more_trees external_trees externals part)))

pub look_file : (nothing : Place) (own : Place) (end : Place) (st : Values) (rest : List ℕ) → sorts_of st ≡ 0 ∷ rest → Looks nothing (of_values 1 1) own st (after_file end st)
look_file nothing own end st rest e = has_externals (Looks nothing (of_values 1 1) own) _ st _ e (λ externals st1 e1. whole nothing externals (looks_of nothing st1))
