-- The values of connections, continuous assignments and events look as the weaves of their actions say.
use Rattle.std.proofs.Common.{◌≡◌, ℕ, List, ◌∷◌, refl}
use Rattle.src_text.specs.declared.refusal.Place.{Place}
use Rattle.src_text.specs.Trees.{all_trees, option_trees}
use Rattle.node_places.proofs.Beside.{end1, end2, in_one, more_trees, more_first, both}
use Rattle.node_places.proofs.Looks.{first_in, of_values}
use Rattle.v_tree.specs.Nodes.{expr_trees, target_trees, net_assignment_trees, ordered_trees, named_trees, connections_trees, instance_trees}
use Rattle.v_tree.specs.Starts.{expr_start}
use Rattle.v_stack.specs.Values.{Values}
use Rattle.v_stack.specs.declared.values.Value.TheVariants as Value
use Rattle.v_stack.specs.declared.values.TokenValue.TheVariants as TokenValue
use Rattle.v_stack.specs.declared.values.ExprValue.TheVariants as ExprValue
use Rattle.v_stack.specs.declared.values.ConnectValue.TheVariants as ConnectValue
use Rattle.v_stack.specs.declared.values.PartValue.TheVariants as PartValue
use Rattle.v_actions.specs.declared.actions.ConnectionAction.TheVariants as connect_action
use Rattle.v_actions.specs.ConnectionActions.{after_connection_action}
use Rattle.v_actions.specs.Sorts.{sorts_of}
use Rattle.v_actions.proofs.TopOfSort.{has_connections, has_expr, has_expr_option, has_instance, has_instances, has_name, has_named, has_named_values, has_names, has_net_assignment, has_net_assignments, has_ordered, has_ordered_values, has_place, has_target}
use Rattle.v_depth.proofs.Values.{name_start, named_start, connections_first, instance_start, net_assignment_start, looks_of, Looks}
use Rattle.v_depth.proofs.Begins.{or_none}

pub look_ordered : (nothing own : Place) (st : Values) (rest : List ℕ) → sorts_of st ≡ 9 ∷ rest → Looks nothing (of_values 1 1) own st (after_connection_action connect_action.Ordered st)
look_ordered nothing own st rest e = has_expr (Looks nothing (of_values 1 1) own) _ st _ e (λ value st1 e1. both (looks_of nothing st1) refl (in_one (expr_start value) (end1 (expr_trees value))))

pub look_no_ordered : (nothing own : Place) (st : Values) (rest : List ℕ) → sorts_of st ≡ rest → Looks nothing (of_values 0 0) own st (after_connection_action connect_action.NoOrdered st)
look_no_ordered nothing own st rest e = refl

pub look_add_ordered : (nothing own : Place) (st : Values) (rest : List ℕ) → sorts_of st ≡ 33 ∷ 34 ∷ rest → Looks nothing (of_values 2 0) own st (after_connection_action connect_action.AddOrdered st)
look_add_ordered nothing own st rest e = has_ordered (Looks nothing (of_values 2 0) own) _ st _ e (λ value st1 e1. has_ordered_values (λ s o. Looks nothing (of_values 2 0) own (Value.Connect (ConnectValue.Ordered value) ∷ s) o) _ st1 _ e1 (λ values st2 e2. both (looks_of nothing st2) (more_first expr_start values value) (more_trees ordered_trees values value)))

pub look_named : (nothing own : Place) (st : Values) (rest : List ℕ) → sorts_of st ≡ 11 ∷ 2 ∷ 1 ∷ rest → Looks nothing (of_values 3 1) own st (after_connection_action connect_action.Named st)
look_named nothing own st rest e = has_expr_option (Looks nothing (of_values 3 1) own) _ st _ e (λ value st1 e1. has_name (λ s o. Looks nothing (of_values 3 1) own (Value.Expr (ExprValue.ExprOption value) ∷ s) o) _ st1 _ e1 (λ name st2 e2. has_place (λ s o. Looks nothing (of_values 3 1) own (Value.Expr (ExprValue.ExprOption value) ∷ Value.Token (TokenValue.Name name) ∷ s) o) _ st2 _ e2 (λ place st3 e3. both (looks_of nothing st3) refl (in_one place (end1 (option_trees expr_trees value))))))

pub look_no_named : (nothing own : Place) (st : Values) (rest : List ℕ) → sorts_of st ≡ rest → Looks nothing (of_values 0 0) own st (after_connection_action connect_action.NoNamed st)
look_no_named nothing own st rest e = refl

pub look_add_named : (nothing own : Place) (st : Values) (rest : List ℕ) → sorts_of st ≡ 35 ∷ 36 ∷ rest → Looks nothing (of_values 2 0) own st (after_connection_action connect_action.AddNamed st)
look_add_named nothing own st rest e = has_named (Looks nothing (of_values 2 0) own) _ st _ e (λ connection st1 e1. has_named_values (λ s o. Looks nothing (of_values 2 0) own (Value.Connect (ConnectValue.Named connection) ∷ s) o) _ st1 _ e1 (λ connections st2 e2. both (looks_of nothing st2) (more_first named_start connections connection) (more_trees named_trees connections connection)))

pub look_no_connections : (nothing own : Place) (st : Values) (rest : List ℕ) → sorts_of st ≡ rest → Looks nothing (of_values 0 0) own st (after_connection_action connect_action.NoConnections st)
look_no_connections nothing own st rest e = refl

pub look_ordered_connections : (nothing own : Place) (st : Values) (rest : List ℕ) → sorts_of st ≡ 34 ∷ rest → Looks nothing (of_values 1 0) own st (after_connection_action connect_action.OrderedConnections st)
look_ordered_connections nothing own st rest e = has_ordered_values (Looks nothing (of_values 1 0) own) _ st _ e (λ values st1 e1. both (looks_of nothing st1) (or_none (first_in expr_start values)) (end1 (all_trees ordered_trees values)))

pub look_named_connections : (nothing own : Place) (st : Values) (rest : List ℕ) → sorts_of st ≡ 36 ∷ rest → Looks nothing (of_values 1 0) own st (after_connection_action connect_action.NamedConnections st)
look_named_connections nothing own st rest e = has_named_values (Looks nothing (of_values 1 0) own) _ st _ e (λ values st1 e1. both (looks_of nothing st1) (or_none (first_in named_start values)) (end1 (all_trees named_trees values)))

pub look_some_overrides : (nothing own : Place) (st : Values) (rest : List ℕ) → sorts_of st ≡ 37 ∷ rest → Looks nothing (of_values 1 0) own st (after_connection_action connect_action.SomeOverrides st)
look_some_overrides nothing own st rest e = has_connections (Looks nothing (of_values 1 0) own) _ st _ e (λ values st1 e1. both (looks_of nothing st1) (or_none (connections_first values)) (end1 (connections_trees values)))

pub look_no_overrides : (nothing own : Place) (st : Values) (rest : List ℕ) → sorts_of st ≡ rest → Looks nothing (of_values 0 0) own st (after_connection_action connect_action.NoOverrides st)
look_no_overrides nothing own st rest e = refl

pub look_instance : (nothing own : Place) (st : Values) (rest : List ℕ) → sorts_of st ≡ 37 ∷ 2 ∷ rest → Looks nothing (of_values 2 1) own st (after_connection_action connect_action.Instance st)
look_instance nothing own st rest e = has_connections (Looks nothing (of_values 2 1) own) _ st _ e (λ connections st1 e1. has_name (λ s o. Looks nothing (of_values 2 1) own (Value.Connect (ConnectValue.Connections connections) ∷ s) o) _ st1 _ e1 (λ name st2 e2. both (looks_of nothing st2) refl (in_one name.place (end1 (connections_trees connections)))))

pub look_no_instances : (nothing own : Place) (st : Values) (rest : List ℕ) → sorts_of st ≡ rest → Looks nothing (of_values 0 0) own st (after_connection_action connect_action.NoInstances st)
look_no_instances nothing own st rest e = refl

pub look_add_instance : (nothing own : Place) (st : Values) (rest : List ℕ) → sorts_of st ≡ 39 ∷ 40 ∷ rest → Looks nothing (of_values 2 0) own st (after_connection_action connect_action.AddInstance st)
look_add_instance nothing own st rest e = has_instance (Looks nothing (of_values 2 0) own) _ st _ e (λ instance st1 e1. has_instances (λ s o. Looks nothing (of_values 2 0) own (Value.Part (PartValue.Instance instance) ∷ s) o) _ st1 _ e1 (λ instances st2 e2. both (looks_of nothing st2) (more_first instance_start instances instance) (more_trees instance_trees instances instance)))

pub look_net_assignment : (nothing own : Place) (st : Values) (rest : List ℕ) → sorts_of st ≡ 9 ∷ 12 ∷ rest → Looks nothing (of_values 2 0) own st (after_connection_action connect_action.NetAssignment st)
look_net_assignment nothing own st rest e = has_expr (Looks nothing (of_values 2 0) own) _ st _ e (λ value st1 e1. has_target (λ s o. Looks nothing (of_values 2 0) own (Value.Expr (ExprValue.Expr value) ∷ s) o) _ st1 _ e1 (λ target st2 e2. both (looks_of nothing st2) refl (end2 (target_trees target) (expr_trees value))))

pub look_no_net_assignments : (nothing own : Place) (st : Values) (rest : List ℕ) → sorts_of st ≡ rest → Looks nothing (of_values 0 0) own st (after_connection_action connect_action.NoNetAssignments st)
look_no_net_assignments nothing own st rest e = refl

pub look_add_net_assignment : (nothing own : Place) (st : Values) (rest : List ℕ) → sorts_of st ≡ 41 ∷ 42 ∷ rest → Looks nothing (of_values 2 0) own st (after_connection_action connect_action.AddNetAssignment st)
look_add_net_assignment nothing own st rest e = has_net_assignment (Looks nothing (of_values 2 0) own) _ st _ e (λ assignment st1 e1. has_net_assignments (λ s o. Looks nothing (of_values 2 0) own (Value.Part (PartValue.NetAssignment assignment) ∷ s) o) _ st1 _ e1 (λ assignments st2 e2. both (looks_of nothing st2) (more_first net_assignment_start assignments assignment) (more_trees net_assignment_trees assignments assignment)))

pub look_any_event : (nothing own : Place) (st : Values) (rest : List ℕ) → sorts_of st ≡ rest → Looks nothing (of_values 0 0) own st (after_connection_action connect_action.AnyEvent st)
look_any_event nothing own st rest e = refl

pub look_posedge_event : (nothing own : Place) (st : Values) (rest : List ℕ) → sorts_of st ≡ 2 ∷ rest → Looks nothing (of_values 1 0) own st (after_connection_action connect_action.PosedgeEvent st)
look_posedge_event nothing own st rest e = has_name (Looks nothing (of_values 1 0) own) _ st _ e (λ clock st1 e1. refl)

pub look_names_event : (nothing own : Place) (st : Values) (rest : List ℕ) → sorts_of st ≡ 25 ∷ rest → Looks nothing (of_values 1 0) own st (after_connection_action connect_action.NamesEvent st)
look_names_event nothing own st rest e = has_names (Looks nothing (of_values 1 0) own) _ st _ e (λ names st1 e1. both (looks_of nothing st1) (or_none (first_in name_start names)) refl)
