-- The values of what declarations are made of look as the weaves of their actions say.
use Rattle.std.proofs.Common.{◌≡◌, ℕ, List, ◌∷◌, refl}
use Rattle.src_text.specs.declared.refusal.Place.{Place}
use Rattle.src_text.specs.Trees.{option_trees}
use Rattle.node_places.proofs.Beside.{end1, end2, in_one, more_trees, more_first, both}
use Rattle.node_places.proofs.Looks.{of_values}
use Rattle.v_tree.specs.Nodes.{expr_trees, range_trees, declared_trees, declarator_trees, parameter_trees, register_trees}
use Rattle.v_stack.specs.Values.{Values}
use Rattle.v_stack.specs.declared.values.Value.TheVariants as Value
use Rattle.v_stack.specs.declared.values.TokenValue.TheVariants as TokenValue
use Rattle.v_stack.specs.declared.values.ExprValue.TheVariants as ExprValue
use Rattle.v_stack.specs.declared.values.DeclareValue.TheVariants as DeclareValue
use Rattle.v_stack.specs.declared.values.NamesValue.TheVariants as NamesValue
use Rattle.v_actions.specs.declared.actions.DeclarationAction.TheVariants as declare_action
use Rattle.v_actions.specs.DeclarationActions.{after_declaration_action}
use Rattle.v_actions.specs.Sorts.{sorts_of}
use Rattle.v_actions.proofs.TopOfSort.{has_declarator, has_declarators, has_declared, has_declared_names, has_expr, has_expr_option, has_name, has_names, has_parameter, has_parameters, has_place, has_range, has_register, has_registers}
use Rattle.v_depth.proofs.Values.{name_start, parameter_start, declarator_start, register_start, looks_of, Looks}

pub look_range : (nothing own : Place) (st : Values) (rest : List ℕ) → sorts_of st ≡ 9 ∷ 9 ∷ 1 ∷ rest → Looks nothing (of_values 3 0) own st (after_declaration_action declare_action.Range st)
look_range nothing own st rest e = has_expr (Looks nothing (of_values 3 0) own) _ st _ e (λ low st1 e1. has_expr (λ s o. Looks nothing (of_values 3 0) own (Value.Expr (ExprValue.Expr low) ∷ s) o) _ st1 _ e1 (λ high st2 e2. has_place (λ s o. Looks nothing (of_values 3 0) own (Value.Expr (ExprValue.Expr low) ∷ Value.Expr (ExprValue.Expr high) ∷ s) o) _ st2 _ e2 (λ place st3 e3. both (looks_of nothing st3) refl (end2 (expr_trees high) (expr_trees low)))))

pub look_some_range : (nothing own : Place) (st : Values) (rest : List ℕ) → sorts_of st ≡ 20 ∷ rest → Looks nothing (of_values 1 0) own st (after_declaration_action declare_action.SomeRange st)
look_some_range nothing own st rest e = has_range (Looks nothing (of_values 1 0) own) _ st _ e (λ range st1 e1. both (looks_of nothing st1) refl (end1 (range_trees range)))

pub look_no_range : (nothing own : Place) (st : Values) (rest : List ℕ) → sorts_of st ≡ rest → Looks nothing (of_values 0 0) own st (after_declaration_action declare_action.NoRange st)
look_no_range nothing own st rest e = refl

pub look_signed_range : (nothing own : Place) (st : Values) (rest : List ℕ) → sorts_of st ≡ 20 ∷ rest → Looks nothing (of_values 1 0) own st (after_declaration_action declare_action.SignedRange st)
look_signed_range nothing own st rest e = has_range (Looks nothing (of_values 1 0) own) _ st _ e (λ range st1 e1. both (looks_of nothing st1) refl (end1 (range_trees range)))

pub look_plain_range : (nothing own : Place) (st : Values) (rest : List ℕ) → sorts_of st ≡ 20 ∷ rest → Looks nothing (of_values 1 0) own st (after_declaration_action declare_action.PlainRange st)
look_plain_range nothing own st rest e = has_range (Looks nothing (of_values 1 0) own) _ st _ e (λ range st1 e1. both (looks_of nothing st1) refl (end1 (range_trees range)))

pub look_no_parameter_range : (nothing own : Place) (st : Values) (rest : List ℕ) → sorts_of st ≡ rest → Looks nothing (of_values 0 0) own st (after_declaration_action declare_action.NoParameterRange st)
look_no_parameter_range nothing own st rest e = refl

pub look_parameter : (nothing own : Place) (st : Values) (rest : List ℕ) → sorts_of st ≡ 9 ∷ 2 ∷ rest → Looks nothing (of_values 2 1) own st (after_declaration_action declare_action.Parameter st)
look_parameter nothing own st rest e = has_expr (Looks nothing (of_values 2 1) own) _ st _ e (λ value st1 e1. has_name (λ s o. Looks nothing (of_values 2 1) own (Value.Expr (ExprValue.Expr value) ∷ s) o) _ st1 _ e1 (λ name st2 e2. both (looks_of nothing st2) refl (in_one name.place (end1 (expr_trees value)))))

pub look_no_parameters : (nothing own : Place) (st : Values) (rest : List ℕ) → sorts_of st ≡ rest → Looks nothing (of_values 0 0) own st (after_declaration_action declare_action.NoParameters st)
look_no_parameters nothing own st rest e = refl

pub look_add_parameter : (nothing own : Place) (st : Values) (rest : List ℕ) → sorts_of st ≡ 23 ∷ 24 ∷ rest → Looks nothing (of_values 2 0) own st (after_declaration_action declare_action.AddParameter st)
look_add_parameter nothing own st rest e = has_parameter (Looks nothing (of_values 2 0) own) _ st _ e (λ parameter st1 e1. has_parameters (λ s o. Looks nothing (of_values 2 0) own (Value.Declare (DeclareValue.Parameter parameter) ∷ s) o) _ st1 _ e1 (λ parameters st2 e2. both (looks_of nothing st2) (more_first parameter_start parameters parameter) (more_trees parameter_trees parameters parameter)))

pub look_no_names : (nothing own : Place) (st : Values) (rest : List ℕ) → sorts_of st ≡ rest → Looks nothing (of_values 0 0) own st (after_declaration_action declare_action.NoNames st)
look_no_names nothing own st rest e = refl

pub look_add_name : (nothing own : Place) (st : Values) (rest : List ℕ) → sorts_of st ≡ 2 ∷ 25 ∷ rest → Looks nothing (of_values 2 0) own st (after_declaration_action declare_action.AddName st)
look_add_name nothing own st rest e = has_name (Looks nothing (of_values 2 0) own) _ st _ e (λ name st1 e1. has_names (λ s o. Looks nothing (of_values 2 0) own (Value.Token (TokenValue.Name name) ∷ s) o) _ st1 _ e1 (λ names st2 e2. both (looks_of nothing st2) (more_first name_start names name) refl))

pub look_no_declared : (nothing own : Place) (st : Values) (rest : List ℕ) → sorts_of st ≡ rest → Looks nothing (of_values 0 0) own st (after_declaration_action declare_action.NoDeclared st)
look_no_declared nothing own st rest e = refl

pub look_add_declared : (nothing own : Place) (st : Values) (rest : List ℕ) → sorts_of st ≡ 3 ∷ 26 ∷ rest → Looks nothing (of_values 2 0) own st (after_declaration_action declare_action.AddDeclared st)
look_add_declared nothing own st rest e = has_declared (Looks nothing (of_values 2 0) own) _ st _ e (λ name st1 e1. has_declared_names (λ s o. Looks nothing (of_values 2 0) own (Value.Token (TokenValue.Declared name) ∷ s) o) _ st1 _ e1 (λ names st2 e2. both (looks_of nothing st2) (more_first name_start names name) (more_trees declared_trees names name)))

pub look_declarator : (nothing own : Place) (st : Values) (rest : List ℕ) → sorts_of st ≡ 11 ∷ 2 ∷ rest → Looks nothing (of_values 2 1) own st (after_declaration_action declare_action.Declarator st)
look_declarator nothing own st rest e = has_expr_option (Looks nothing (of_values 2 1) own) _ st _ e (λ value st1 e1. has_name (λ s o. Looks nothing (of_values 2 1) own (Value.Expr (ExprValue.ExprOption value) ∷ s) o) _ st1 _ e1 (λ name st2 e2. both (looks_of nothing st2) refl (in_one name.place (end1 (option_trees expr_trees value)))))

pub look_no_declarators : (nothing own : Place) (st : Values) (rest : List ℕ) → sorts_of st ≡ rest → Looks nothing (of_values 0 0) own st (after_declaration_action declare_action.NoDeclarators st)
look_no_declarators nothing own st rest e = refl

pub look_add_declarator : (nothing own : Place) (st : Values) (rest : List ℕ) → sorts_of st ≡ 27 ∷ 28 ∷ rest → Looks nothing (of_values 2 0) own st (after_declaration_action declare_action.AddDeclarator st)
look_add_declarator nothing own st rest e = has_declarator (Looks nothing (of_values 2 0) own) _ st _ e (λ declarator st1 e1. has_declarators (λ s o. Looks nothing (of_values 2 0) own (Value.Names (NamesValue.Declarator declarator) ∷ s) o) _ st1 _ e1 (λ declarators st2 e2. both (looks_of nothing st2) (more_first declarator_start declarators declarator) (more_trees declarator_trees declarators declarator)))

pub look_wire_kind : (nothing own : Place) (st : Values) (rest : List ℕ) → sorts_of st ≡ rest → Looks nothing (of_values 0 0) own st (after_declaration_action declare_action.WireKind st)
look_wire_kind nothing own st rest e = refl

pub look_reg_kind : (nothing own : Place) (st : Values) (rest : List ℕ) → sorts_of st ≡ rest → Looks nothing (of_values 0 0) own st (after_declaration_action declare_action.RegKind st)
look_reg_kind nothing own st rest e = refl

pub look_no_kind : (nothing own : Place) (st : Values) (rest : List ℕ) → sorts_of st ≡ rest → Looks nothing (of_values 0 0) own st (after_declaration_action declare_action.NoKind st)
look_no_kind nothing own st rest e = refl

pub look_signed : (nothing own : Place) (st : Values) (rest : List ℕ) → sorts_of st ≡ rest → Looks nothing (of_values 0 0) own st (after_declaration_action declare_action.Signed st)
look_signed nothing own st rest e = refl

pub look_unsigned : (nothing own : Place) (st : Values) (rest : List ℕ) → sorts_of st ≡ rest → Looks nothing (of_values 0 0) own st (after_declaration_action declare_action.Unsigned st)
look_unsigned nothing own st rest e = refl

pub look_plain_register : (nothing own : Place) (st : Values) (rest : List ℕ) → sorts_of st ≡ 2 ∷ rest → Looks nothing (of_values 1 1) own st (after_declaration_action declare_action.PlainRegister st)
look_plain_register nothing own st rest e = has_name (Looks nothing (of_values 1 1) own) _ st _ e (λ name st1 e1. refl)

pub look_initialized_register : (nothing own : Place) (st : Values) (rest : List ℕ) → sorts_of st ≡ 9 ∷ 2 ∷ rest → Looks nothing (of_values 2 1) own st (after_declaration_action declare_action.InitializedRegister st)
look_initialized_register nothing own st rest e = has_expr (Looks nothing (of_values 2 1) own) _ st _ e (λ value st1 e1. has_name (λ s o. Looks nothing (of_values 2 1) own (Value.Expr (ExprValue.Expr value) ∷ s) o) _ st1 _ e1 (λ name st2 e2. both (looks_of nothing st2) refl (in_one name.place (end1 (expr_trees value)))))

pub look_memory : (nothing own : Place) (st : Values) (rest : List ℕ) → sorts_of st ≡ 20 ∷ 2 ∷ rest → Looks nothing (of_values 2 1) own st (after_declaration_action declare_action.Memory st)
look_memory nothing own st rest e = has_range (Looks nothing (of_values 2 1) own) _ st _ e (λ range st1 e1. has_name (λ s o. Looks nothing (of_values 2 1) own (Value.Expr (ExprValue.Range range) ∷ s) o) _ st1 _ e1 (λ name st2 e2. both (looks_of nothing st2) refl (in_one name.place (end1 (range_trees range)))))

pub look_no_registers : (nothing own : Place) (st : Values) (rest : List ℕ) → sorts_of st ≡ rest → Looks nothing (of_values 0 0) own st (after_declaration_action declare_action.NoRegisters st)
look_no_registers nothing own st rest e = refl

pub look_add_register : (nothing own : Place) (st : Values) (rest : List ℕ) → sorts_of st ≡ 31 ∷ 32 ∷ rest → Looks nothing (of_values 2 0) own st (after_declaration_action declare_action.AddRegister st)
look_add_register nothing own st rest e = has_register (Looks nothing (of_values 2 0) own) _ st _ e (λ register st1 e1. has_registers (λ s o. Looks nothing (of_values 2 0) own (Value.Names (NamesValue.Register register) ∷ s) o) _ st1 _ e1 (λ registers st2 e2. both (looks_of nothing st2) (more_first register_start registers register) (more_trees register_trees registers register)))
