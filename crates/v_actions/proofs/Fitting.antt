-- What each action takes and gives, as the table's signatures have it, and that it always can.
use Rattle.std.proofs.Common.{◌≡◌, ℕ, ◌-◌, List, [], ◌∷◌, ◌++◌, Option, Some, None, map, refl, sym, ap, ◌∙◌, slice_index_or}
use Rattle.std.proofs.Math.ListN.{get_or-map}
use Rattle.ll_actions.specs.Sorts.{Signature, signature_of}
use Rattle.v_actions.specs.declared.actions.TokenAction.{TokenAction}
use Rattle.v_actions.specs.declared.actions.TokenAction.TheVariants as token_action
use Rattle.v_actions.specs.declared.actions.ExpressionAction.{ExpressionAction}
use Rattle.v_actions.specs.declared.actions.ExpressionAction.TheVariants as expr_action
use Rattle.v_actions.specs.declared.actions.StatementAction.{StatementAction}
use Rattle.v_actions.specs.declared.actions.StatementAction.TheVariants as stmt_action
use Rattle.v_actions.specs.declared.actions.DeclarationAction.{DeclarationAction}
use Rattle.v_actions.specs.declared.actions.DeclarationAction.TheVariants as declare_action
use Rattle.v_actions.specs.declared.actions.ConnectionAction.{ConnectionAction}
use Rattle.v_actions.specs.declared.actions.ConnectionAction.TheVariants as connect_action
use Rattle.v_actions.specs.declared.actions.ModuleAction.{ModuleAction}
use Rattle.v_actions.specs.declared.actions.ModuleAction.TheVariants as module_action
use Rattle.v_actions.specs.declared.actions.Action.{Action}
use Rattle.v_actions.specs.declared.actions.Action.TheVariants as action
use Rattle.v_actions.specs.declared.actions.TheConstants.{ACTIONS}
use Rattle.v_actions.specs.Acts.{after_action}
use Rattle.v_actions.specs.ConnectionActions.{after_connection_action}
use Rattle.v_actions.specs.DeclarationActions.{after_declaration_action}
use Rattle.v_actions.specs.ExpressionActions.{after_expression_action}
use Rattle.v_actions.specs.ModuleActions.{after_module_action}
use Rattle.v_actions.specs.Numbers.{action_of}
use Rattle.v_actions.specs.Sorts.{sorts_of}
use Rattle.v_actions.specs.StatementActions.{after_statement_action}
use Rattle.v_actions.specs.Tokens.{Lexemes, token_value}
use Rattle.v_stack.specs.Values.{Values}
use Rattle.v_grammar.specs.Sorts.{SIGNATURES}
use Rattle.v_actions.proofs.TopOfSort.{has_assignment_kind, has_based, has_binary_operator, has_case_item, has_case_items, has_connections, has_decimal, has_declarator, has_declarators, has_declared, has_declared_names, has_direction, has_event, has_expr, has_expr_option, has_exprs, has_groups, has_header, has_instance, has_instances, has_item, has_items, has_label, has_module, has_modules, has_name, has_named, has_named_values, has_names, has_net_assignment, has_net_assignments, has_net_kind, has_ordered, has_ordered_values, has_overrides, has_parameter, has_parameter_range, has_parameters, has_place, has_ports, has_range, has_range_option, has_register, has_registers, has_selection, has_sign, has_stmt, has_stmts, has_target, has_targets, has_unary_operator}

-- what is left is a stack whose top is of this sort
abbrev pub Makes : ℕ → List ℕ → Values → Option Values → Type 0
Makes sort rest st None = ⊥
Makes sort rest st (Some new) = sorts_of new ≡ sort ∷ rest

done : (sort : ℕ) {xs ys : List ℕ} → xs ≡ ys → sort ∷ xs ≡ sort ∷ ys
done sort e = ap (λ zs. sort ∷ zs) e

abbrev signature_of_token : TokenAction → Signature
signature_of_token token_action.Place = record { takes = []; gives = 1 }
signature_of_token token_action.Name = record { takes = []; gives = 2 }
signature_of_token token_action.Declared = record { takes = []; gives = 3 }
signature_of_token (token_action.Direction kind) = record { takes = []; gives = 6 }
signature_of_token (token_action.Unary op) = record { takes = []; gives = 7 }
signature_of_token (token_action.Binary op) = record { takes = []; gives = 8 }
signature_of_token token_action.Decimal = record { takes = []; gives = 4 }
signature_of_token token_action.Based = record { takes = []; gives = 5 }

abbrev signature_of_expr : ExpressionAction → Signature
signature_of_expr expr_action.NoExprs = record { takes = []; gives = 0 }
signature_of_expr expr_action.DecimalLiteral = record { takes = 4 ∷ []; gives = 9 }
signature_of_expr expr_action.BasedLiteral = record { takes = 5 ∷ []; gives = 9 }
signature_of_expr expr_action.SizedLiteral = record { takes = 5 ∷ 4 ∷ []; gives = 9 }
signature_of_expr expr_action.NameAlone = record { takes = 2 ∷ []; gives = 9 }
signature_of_expr expr_action.Select = record { takes = 10 ∷ 2 ∷ []; gives = 9 }
signature_of_expr expr_action.Unary = record { takes = 9 ∷ 7 ∷ []; gives = 9 }
signature_of_expr expr_action.Binary = record { takes = 9 ∷ 8 ∷ 9 ∷ []; gives = 9 }
signature_of_expr expr_action.Conditional = record { takes = 9 ∷ 9 ∷ 9 ∷ []; gives = 9 }
signature_of_expr expr_action.Parentheses = record { takes = 9 ∷ 1 ∷ []; gives = 9 }
signature_of_expr expr_action.Concatenation = record { takes = 0 ∷ 1 ∷ []; gives = 9 }
signature_of_expr expr_action.Replication = record { takes = 0 ∷ 9 ∷ 1 ∷ []; gives = 9 }
signature_of_expr expr_action.SignedCall = record { takes = 9 ∷ 1 ∷ []; gives = 9 }
signature_of_expr expr_action.UnsignedCall = record { takes = 9 ∷ 1 ∷ []; gives = 9 }
signature_of_expr expr_action.IndexSelection = record { takes = 9 ∷ []; gives = 10 }
signature_of_expr expr_action.RangeSelection = record { takes = 9 ∷ 9 ∷ []; gives = 10 }
signature_of_expr expr_action.UpSelection = record { takes = 9 ∷ 9 ∷ []; gives = 10 }
signature_of_expr expr_action.DownSelection = record { takes = 9 ∷ 9 ∷ []; gives = 10 }
signature_of_expr expr_action.AddExpr = record { takes = 9 ∷ 0 ∷ []; gives = 0 }
signature_of_expr expr_action.FirstExpr = record { takes = 9 ∷ []; gives = 0 }
signature_of_expr expr_action.SomeExpr = record { takes = 9 ∷ []; gives = 11 }
signature_of_expr expr_action.NoExpr = record { takes = []; gives = 11 }

abbrev signature_of_stmt : StatementAction → Signature
signature_of_stmt stmt_action.TargetName = record { takes = 2 ∷ []; gives = 12 }
signature_of_stmt stmt_action.TargetSelect = record { takes = 10 ∷ 2 ∷ []; gives = 12 }
signature_of_stmt stmt_action.TargetConcatenation = record { takes = 13 ∷ 1 ∷ []; gives = 12 }
signature_of_stmt stmt_action.NoTargets = record { takes = []; gives = 13 }
signature_of_stmt stmt_action.AddTarget = record { takes = 12 ∷ 13 ∷ []; gives = 13 }
signature_of_stmt stmt_action.Blocking = record { takes = []; gives = 14 }
signature_of_stmt stmt_action.Nonblocking = record { takes = []; gives = 14 }
signature_of_stmt stmt_action.Assignment = record { takes = 9 ∷ 14 ∷ 12 ∷ []; gives = 15 }
signature_of_stmt stmt_action.Empty = record { takes = 1 ∷ []; gives = 15 }
signature_of_stmt stmt_action.SomeLabel = record { takes = 2 ∷ []; gives = 16 }
signature_of_stmt stmt_action.NoLabel = record { takes = []; gives = 16 }
signature_of_stmt stmt_action.Block = record { takes = 17 ∷ 16 ∷ 1 ∷ []; gives = 15 }
signature_of_stmt stmt_action.NoStmts = record { takes = []; gives = 17 }
signature_of_stmt stmt_action.AddStmt = record { takes = 15 ∷ 17 ∷ []; gives = 17 }
signature_of_stmt stmt_action.IfAlone = record { takes = 15 ∷ 9 ∷ 1 ∷ []; gives = 15 }
signature_of_stmt stmt_action.IfElse = record { takes = 15 ∷ 15 ∷ 9 ∷ 1 ∷ []; gives = 15 }
signature_of_stmt stmt_action.Case = record { takes = 18 ∷ 9 ∷ 1 ∷ []; gives = 15 }
signature_of_stmt stmt_action.Casez = record { takes = 18 ∷ 9 ∷ 1 ∷ []; gives = 15 }
signature_of_stmt stmt_action.ValuesItem = record { takes = 15 ∷ 0 ∷ []; gives = 19 }
signature_of_stmt stmt_action.DefaultItem = record { takes = 15 ∷ 1 ∷ []; gives = 19 }
signature_of_stmt stmt_action.NoCaseItems = record { takes = []; gives = 18 }
signature_of_stmt stmt_action.AddCaseItem = record { takes = 19 ∷ 18 ∷ []; gives = 18 }
signature_of_stmt stmt_action.For = record { takes = 15 ∷ 9 ∷ 2 ∷ 9 ∷ 9 ∷ 2 ∷ 1 ∷ []; gives = 15 }

abbrev signature_of_declare : DeclarationAction → Signature
signature_of_declare declare_action.Range = record { takes = 9 ∷ 9 ∷ 1 ∷ []; gives = 20 }
signature_of_declare declare_action.SomeRange = record { takes = 20 ∷ []; gives = 21 }
signature_of_declare declare_action.NoRange = record { takes = []; gives = 21 }
signature_of_declare declare_action.SignedRange = record { takes = 20 ∷ []; gives = 22 }
signature_of_declare declare_action.PlainRange = record { takes = 20 ∷ []; gives = 22 }
signature_of_declare declare_action.NoParameterRange = record { takes = []; gives = 22 }
signature_of_declare declare_action.Parameter = record { takes = 9 ∷ 2 ∷ []; gives = 23 }
signature_of_declare declare_action.NoParameters = record { takes = []; gives = 24 }
signature_of_declare declare_action.AddParameter = record { takes = 23 ∷ 24 ∷ []; gives = 24 }
signature_of_declare declare_action.NoNames = record { takes = []; gives = 25 }
signature_of_declare declare_action.AddName = record { takes = 2 ∷ 25 ∷ []; gives = 25 }
signature_of_declare declare_action.NoDeclared = record { takes = []; gives = 26 }
signature_of_declare declare_action.AddDeclared = record { takes = 3 ∷ 26 ∷ []; gives = 26 }
signature_of_declare declare_action.Declarator = record { takes = 11 ∷ 2 ∷ []; gives = 27 }
signature_of_declare declare_action.NoDeclarators = record { takes = []; gives = 28 }
signature_of_declare declare_action.AddDeclarator = record { takes = 27 ∷ 28 ∷ []; gives = 28 }
signature_of_declare declare_action.WireKind = record { takes = []; gives = 29 }
signature_of_declare declare_action.RegKind = record { takes = []; gives = 29 }
signature_of_declare declare_action.NoKind = record { takes = []; gives = 29 }
signature_of_declare declare_action.Signed = record { takes = []; gives = 30 }
signature_of_declare declare_action.Unsigned = record { takes = []; gives = 30 }
signature_of_declare declare_action.PlainRegister = record { takes = 2 ∷ []; gives = 31 }
signature_of_declare declare_action.InitializedRegister = record { takes = 9 ∷ 2 ∷ []; gives = 31 }
signature_of_declare declare_action.Memory = record { takes = 20 ∷ 2 ∷ []; gives = 31 }
signature_of_declare declare_action.NoRegisters = record { takes = []; gives = 32 }
signature_of_declare declare_action.AddRegister = record { takes = 31 ∷ 32 ∷ []; gives = 32 }

abbrev signature_of_connect : ConnectionAction → Signature
signature_of_connect connect_action.Ordered = record { takes = 9 ∷ []; gives = 33 }
signature_of_connect connect_action.NoOrdered = record { takes = []; gives = 34 }
signature_of_connect connect_action.AddOrdered = record { takes = 33 ∷ 34 ∷ []; gives = 34 }
signature_of_connect connect_action.Named = record { takes = 11 ∷ 2 ∷ 1 ∷ []; gives = 35 }
signature_of_connect connect_action.NoNamed = record { takes = []; gives = 36 }
signature_of_connect connect_action.AddNamed = record { takes = 35 ∷ 36 ∷ []; gives = 36 }
signature_of_connect connect_action.NoConnections = record { takes = []; gives = 37 }
signature_of_connect connect_action.OrderedConnections = record { takes = 34 ∷ []; gives = 37 }
signature_of_connect connect_action.NamedConnections = record { takes = 36 ∷ []; gives = 37 }
signature_of_connect connect_action.SomeOverrides = record { takes = 37 ∷ []; gives = 38 }
signature_of_connect connect_action.NoOverrides = record { takes = []; gives = 38 }
signature_of_connect connect_action.Instance = record { takes = 37 ∷ 2 ∷ []; gives = 39 }
signature_of_connect connect_action.NoInstances = record { takes = []; gives = 40 }
signature_of_connect connect_action.AddInstance = record { takes = 39 ∷ 40 ∷ []; gives = 40 }
signature_of_connect connect_action.NetAssignment = record { takes = 9 ∷ 12 ∷ []; gives = 41 }
signature_of_connect connect_action.NoNetAssignments = record { takes = []; gives = 42 }
signature_of_connect connect_action.AddNetAssignment = record { takes = 41 ∷ 42 ∷ []; gives = 42 }
signature_of_connect connect_action.AnyEvent = record { takes = []; gives = 43 }
signature_of_connect connect_action.PosedgeEvent = record { takes = 2 ∷ []; gives = 43 }
signature_of_connect connect_action.NamesEvent = record { takes = 25 ∷ []; gives = 43 }

abbrev signature_of_module : ModuleAction → Signature
signature_of_module module_action.PortItem = record { takes = 26 ∷ 21 ∷ 30 ∷ 29 ∷ 6 ∷ []; gives = 44 }
signature_of_module module_action.NetItem = record { takes = 28 ∷ 21 ∷ 30 ∷ 1 ∷ []; gives = 44 }
signature_of_module module_action.RegItem = record { takes = 32 ∷ 21 ∷ 30 ∷ 1 ∷ []; gives = 44 }
signature_of_module module_action.IntegerItem = record { takes = 26 ∷ 1 ∷ []; gives = 44 }
signature_of_module module_action.ParameterItem = record { takes = 24 ∷ 22 ∷ 1 ∷ []; gives = 44 }
signature_of_module module_action.LocalParameterItem = record { takes = 24 ∷ 22 ∷ 1 ∷ []; gives = 44 }
signature_of_module module_action.AssignItem = record { takes = 42 ∷ 1 ∷ []; gives = 44 }
signature_of_module module_action.AlwaysItem = record { takes = 15 ∷ 43 ∷ 1 ∷ []; gives = 44 }
signature_of_module module_action.InitialItem = record { takes = 15 ∷ 1 ∷ []; gives = 44 }
signature_of_module module_action.InstancesItem = record { takes = 40 ∷ 38 ∷ 2 ∷ []; gives = 44 }
signature_of_module module_action.NoItems = record { takes = []; gives = 45 }
signature_of_module module_action.AddItem = record { takes = 44 ∷ 45 ∷ []; gives = 45 }
signature_of_module module_action.NoGroups = record { takes = []; gives = 46 }
signature_of_module module_action.CloseGroup = record { takes = 24 ∷ 22 ∷ 1 ∷ 46 ∷ []; gives = 46 }
signature_of_module module_action.NoPorts = record { takes = []; gives = 47 }
signature_of_module module_action.ClosePort = record { takes = 28 ∷ 21 ∷ 30 ∷ 29 ∷ 6 ∷ 47 ∷ []; gives = 47 }
signature_of_module module_action.AbsentHeader = record { takes = []; gives = 48 }
signature_of_module module_action.EmptyHeader = record { takes = []; gives = 48 }
signature_of_module module_action.HeaderNames = record { takes = 25 ∷ []; gives = 48 }
signature_of_module module_action.HeaderPorts = record { takes = 47 ∷ []; gives = 48 }
signature_of_module module_action.Module = record { takes = 45 ∷ 48 ∷ 46 ∷ 2 ∷ 1 ∷ []; gives = 49 }
signature_of_module module_action.NoModules = record { takes = []; gives = 50 }
signature_of_module module_action.AddModule = record { takes = 49 ∷ 50 ∷ []; gives = 50 }
signature_of_module module_action.Source = record { takes = 50 ∷ []; gives = 51 }

abbrev pub signature : Action → Signature
signature (action.Token a) = signature_of_token a
signature (action.Expression a) = signature_of_expr a
signature (action.Statement a) = signature_of_stmt a
signature (action.Declaration a) = signature_of_declare a
signature (action.Connection a) = signature_of_connect a
signature (action.Module a) = signature_of_module a

signatures : map signature ACTIONS ≡ SIGNATURES
unfolding SIGNATURES
signatures = refl

pub signature_at : (number : ℕ) → signature_of SIGNATURES number ≡ signature (action_of number)
signature_at number =
    ap (λ gs. slice_index_or gs number (record { takes = []; gives = 0 })) (sym signatures) ∙ get_or-map signature ACTIONS number (action.Expression expr_action.NoExprs)

fit_token : (x : Lexemes) (a : TokenAction) (i : ℕ) (st : Values) (rest : List ℕ) → sorts_of st ≡ (signature_of_token a).takes ++ rest →
    Makes (signature_of_token a).gives rest st (Some (token_value x a i ∷ st))
fit_token x token_action.Place i st rest e = done 1 e
fit_token x token_action.Name i st rest e = done 2 e
fit_token x token_action.Declared i st rest e = done 3 e
fit_token x (token_action.Direction kind) i st rest e = done 6 e
fit_token x (token_action.Unary op) i st rest e = done 7 e
fit_token x (token_action.Binary op) i st rest e = done 8 e
fit_token x token_action.Decimal i st rest e = done 4 e
fit_token x token_action.Based i st rest e = done 5 e

fit_expr : (a : ExpressionAction) (st : Values) (rest : List ℕ) → sorts_of st ≡ (signature_of_expr a).takes ++ rest → Makes (signature_of_expr a).gives rest st (after_expression_action a st)
fit_expr expr_action.NoExprs st rest e = done 0 e
fit_expr expr_action.DecimalLiteral st rest e = has_decimal (Makes 9 rest) _ st _ e (λ x0 st0 e0. done 9 e0)
fit_expr expr_action.BasedLiteral st rest e = has_based (Makes 9 rest) _ st _ e (λ x0 st0 e0. done 9 e0)
fit_expr expr_action.SizedLiteral st rest e = has_based (Makes 9 rest) _ st _ e (λ x0 st0 e0. has_decimal (Makes 9 rest) _ st0 _ e0 (λ x1 st1 e1. done 9 e1))
fit_expr expr_action.NameAlone st rest e = has_name (Makes 9 rest) _ st _ e (λ x0 st0 e0. done 9 e0)
fit_expr expr_action.Select st rest e = has_selection (Makes 9 rest) _ st _ e (λ x0 st0 e0. has_name (Makes 9 rest) _ st0 _ e0 (λ x1 st1 e1. done 9 e1))
fit_expr expr_action.Unary st rest e = has_expr (Makes 9 rest) _ st _ e (λ x0 st0 e0. has_unary_operator (Makes 9 rest) _ st0 _ e0 (λ x1 st1 e1. done 9 e1))
fit_expr expr_action.Binary st rest e = has_expr (Makes 9 rest) _ st _ e (λ x0 st0 e0. has_binary_operator (Makes 9 rest) _ st0 _ e0 (λ x1 st1 e1. has_expr (Makes 9 rest) _ st1 _ e1 (λ x2 st2 e2. done 9 e2)))
fit_expr expr_action.Conditional st rest e = has_expr (Makes 9 rest) _ st _ e (λ x0 st0 e0. has_expr (Makes 9 rest) _ st0 _ e0 (λ x1 st1 e1. has_expr (Makes 9 rest) _ st1 _ e1 (λ x2 st2 e2. done 9 e2)))
fit_expr expr_action.Parentheses st rest e = has_expr (Makes 9 rest) _ st _ e (λ x0 st0 e0. has_place (Makes 9 rest) _ st0 _ e0 (λ x1 st1 e1. done 9 e1))
fit_expr expr_action.Concatenation st rest e = has_exprs (Makes 9 rest) _ st _ e (λ x0 st0 e0. has_place (Makes 9 rest) _ st0 _ e0 (λ x1 st1 e1. done 9 e1))
fit_expr expr_action.Replication st rest e = has_exprs (Makes 9 rest) _ st _ e (λ x0 st0 e0. has_expr (Makes 9 rest) _ st0 _ e0 (λ x1 st1 e1. has_place (Makes 9 rest) _ st1 _ e1 (λ x2 st2 e2. done 9 e2)))
fit_expr expr_action.SignedCall st rest e = has_expr (Makes 9 rest) _ st _ e (λ x0 st0 e0. has_place (Makes 9 rest) _ st0 _ e0 (λ x1 st1 e1. done 9 e1))
fit_expr expr_action.UnsignedCall st rest e = has_expr (Makes 9 rest) _ st _ e (λ x0 st0 e0. has_place (Makes 9 rest) _ st0 _ e0 (λ x1 st1 e1. done 9 e1))
fit_expr expr_action.IndexSelection st rest e = has_expr (Makes 10 rest) _ st _ e (λ x0 st0 e0. done 10 e0)
fit_expr expr_action.RangeSelection st rest e = has_expr (Makes 10 rest) _ st _ e (λ x0 st0 e0. has_expr (Makes 10 rest) _ st0 _ e0 (λ x1 st1 e1. done 10 e1))
fit_expr expr_action.UpSelection st rest e = has_expr (Makes 10 rest) _ st _ e (λ x0 st0 e0. has_expr (Makes 10 rest) _ st0 _ e0 (λ x1 st1 e1. done 10 e1))
fit_expr expr_action.DownSelection st rest e = has_expr (Makes 10 rest) _ st _ e (λ x0 st0 e0. has_expr (Makes 10 rest) _ st0 _ e0 (λ x1 st1 e1. done 10 e1))
fit_expr expr_action.AddExpr st rest e = has_expr (Makes 0 rest) _ st _ e (λ x0 st0 e0. has_exprs (Makes 0 rest) _ st0 _ e0 (λ x1 st1 e1. done 0 e1))
fit_expr expr_action.FirstExpr st rest e = has_expr (Makes 0 rest) _ st _ e (λ x0 st0 e0. done 0 e0)
fit_expr expr_action.SomeExpr st rest e = has_expr (Makes 11 rest) _ st _ e (λ x0 st0 e0. done 11 e0)
fit_expr expr_action.NoExpr st rest e = done 11 e

fit_stmt : (a : StatementAction) (st : Values) (rest : List ℕ) → sorts_of st ≡ (signature_of_stmt a).takes ++ rest → Makes (signature_of_stmt a).gives rest st (after_statement_action a st)
fit_stmt stmt_action.TargetName st rest e = has_name (Makes 12 rest) _ st _ e (λ x0 st0 e0. done 12 e0)
fit_stmt stmt_action.TargetSelect st rest e = has_selection (Makes 12 rest) _ st _ e (λ x0 st0 e0. has_name (Makes 12 rest) _ st0 _ e0 (λ x1 st1 e1. done 12 e1))
fit_stmt stmt_action.TargetConcatenation st rest e = has_targets (Makes 12 rest) _ st _ e (λ x0 st0 e0. has_place (Makes 12 rest) _ st0 _ e0 (λ x1 st1 e1. done 12 e1))
fit_stmt stmt_action.NoTargets st rest e = done 13 e
fit_stmt stmt_action.AddTarget st rest e = has_target (Makes 13 rest) _ st _ e (λ x0 st0 e0. has_targets (Makes 13 rest) _ st0 _ e0 (λ x1 st1 e1. done 13 e1))
fit_stmt stmt_action.Blocking st rest e = done 14 e
fit_stmt stmt_action.Nonblocking st rest e = done 14 e
fit_stmt stmt_action.Assignment st rest e = has_expr (Makes 15 rest) _ st _ e (λ x0 st0 e0. has_assignment_kind (Makes 15 rest) _ st0 _ e0 (λ x1 st1 e1. has_target (Makes 15 rest) _ st1 _ e1 (λ x2 st2 e2. done 15 e2)))
fit_stmt stmt_action.Empty st rest e = has_place (Makes 15 rest) _ st _ e (λ x0 st0 e0. done 15 e0)
fit_stmt stmt_action.SomeLabel st rest e = has_name (Makes 16 rest) _ st _ e (λ x0 st0 e0. done 16 e0)
fit_stmt stmt_action.NoLabel st rest e = done 16 e
fit_stmt stmt_action.Block st rest e = has_stmts (Makes 15 rest) _ st _ e (λ x0 st0 e0. has_label (Makes 15 rest) _ st0 _ e0 (λ x1 st1 e1. has_place (Makes 15 rest) _ st1 _ e1 (λ x2 st2 e2. done 15 e2)))
fit_stmt stmt_action.NoStmts st rest e = done 17 e
fit_stmt stmt_action.AddStmt st rest e = has_stmt (Makes 17 rest) _ st _ e (λ x0 st0 e0. has_stmts (Makes 17 rest) _ st0 _ e0 (λ x1 st1 e1. done 17 e1))
fit_stmt stmt_action.IfAlone st rest e = has_stmt (Makes 15 rest) _ st _ e (λ x0 st0 e0. has_expr (Makes 15 rest) _ st0 _ e0 (λ x1 st1 e1. has_place (Makes 15 rest) _ st1 _ e1 (λ x2 st2 e2. done 15 e2)))
fit_stmt stmt_action.IfElse st rest e = has_stmt (Makes 15 rest) _ st _ e (λ x0 st0 e0. has_stmt (Makes 15 rest) _ st0 _ e0 (λ x1 st1 e1. has_expr (Makes 15 rest) _ st1 _ e1 (λ x2 st2 e2. has_place (Makes 15 rest) _ st2 _ e2 (λ x3 st3 e3. done 15 e3))))
fit_stmt stmt_action.Case st rest e = has_case_items (Makes 15 rest) _ st _ e (λ x0 st0 e0. has_expr (Makes 15 rest) _ st0 _ e0 (λ x1 st1 e1. has_place (Makes 15 rest) _ st1 _ e1 (λ x2 st2 e2. done 15 e2)))
fit_stmt stmt_action.Casez st rest e = has_case_items (Makes 15 rest) _ st _ e (λ x0 st0 e0. has_expr (Makes 15 rest) _ st0 _ e0 (λ x1 st1 e1. has_place (Makes 15 rest) _ st1 _ e1 (λ x2 st2 e2. done 15 e2)))
fit_stmt stmt_action.ValuesItem st rest e = has_stmt (Makes 19 rest) _ st _ e (λ x0 st0 e0. has_exprs (Makes 19 rest) _ st0 _ e0 (λ x1 st1 e1. done 19 e1))
fit_stmt stmt_action.DefaultItem st rest e = has_stmt (Makes 19 rest) _ st _ e (λ x0 st0 e0. has_place (Makes 19 rest) _ st0 _ e0 (λ x1 st1 e1. done 19 e1))
fit_stmt stmt_action.NoCaseItems st rest e = done 18 e
fit_stmt stmt_action.AddCaseItem st rest e = has_case_item (Makes 18 rest) _ st _ e (λ x0 st0 e0. has_case_items (Makes 18 rest) _ st0 _ e0 (λ x1 st1 e1. done 18 e1))
fit_stmt stmt_action.For st rest e = has_stmt (Makes 15 rest) _ st _ e (λ x0 st0 e0. has_expr (Makes 15 rest) _ st0 _ e0 (λ x1 st1 e1. has_name (Makes 15 rest) _ st1 _ e1 (λ x2 st2 e2. has_expr (Makes 15 rest) _ st2 _ e2 (λ x3 st3 e3. has_expr (Makes 15 rest) _ st3 _ e3 (λ x4 st4 e4. has_name (Makes 15 rest) _ st4 _ e4 (λ x5 st5 e5. has_place (Makes 15 rest) _ st5 _ e5 (λ x6 st6 e6. done 15 e6)))))))

fit_declare : (a : DeclarationAction) (st : Values) (rest : List ℕ) → sorts_of st ≡ (signature_of_declare a).takes ++ rest → Makes (signature_of_declare a).gives rest st (after_declaration_action a st)
fit_declare declare_action.Range st rest e = has_expr (Makes 20 rest) _ st _ e (λ x0 st0 e0. has_expr (Makes 20 rest) _ st0 _ e0 (λ x1 st1 e1. has_place (Makes 20 rest) _ st1 _ e1 (λ x2 st2 e2. done 20 e2)))
fit_declare declare_action.SomeRange st rest e = has_range (Makes 21 rest) _ st _ e (λ x0 st0 e0. done 21 e0)
fit_declare declare_action.NoRange st rest e = done 21 e
fit_declare declare_action.SignedRange st rest e = has_range (Makes 22 rest) _ st _ e (λ x0 st0 e0. done 22 e0)
fit_declare declare_action.PlainRange st rest e = has_range (Makes 22 rest) _ st _ e (λ x0 st0 e0. done 22 e0)
fit_declare declare_action.NoParameterRange st rest e = done 22 e
fit_declare declare_action.Parameter st rest e = has_expr (Makes 23 rest) _ st _ e (λ x0 st0 e0. has_name (Makes 23 rest) _ st0 _ e0 (λ x1 st1 e1. done 23 e1))
fit_declare declare_action.NoParameters st rest e = done 24 e
fit_declare declare_action.AddParameter st rest e = has_parameter (Makes 24 rest) _ st _ e (λ x0 st0 e0. has_parameters (Makes 24 rest) _ st0 _ e0 (λ x1 st1 e1. done 24 e1))
fit_declare declare_action.NoNames st rest e = done 25 e
fit_declare declare_action.AddName st rest e = has_name (Makes 25 rest) _ st _ e (λ x0 st0 e0. has_names (Makes 25 rest) _ st0 _ e0 (λ x1 st1 e1. done 25 e1))
fit_declare declare_action.NoDeclared st rest e = done 26 e
fit_declare declare_action.AddDeclared st rest e = has_declared (Makes 26 rest) _ st _ e (λ x0 st0 e0. has_declared_names (Makes 26 rest) _ st0 _ e0 (λ x1 st1 e1. done 26 e1))
fit_declare declare_action.Declarator st rest e = has_expr_option (Makes 27 rest) _ st _ e (λ x0 st0 e0. has_name (Makes 27 rest) _ st0 _ e0 (λ x1 st1 e1. done 27 e1))
fit_declare declare_action.NoDeclarators st rest e = done 28 e
fit_declare declare_action.AddDeclarator st rest e = has_declarator (Makes 28 rest) _ st _ e (λ x0 st0 e0. has_declarators (Makes 28 rest) _ st0 _ e0 (λ x1 st1 e1. done 28 e1))
fit_declare declare_action.WireKind st rest e = done 29 e
fit_declare declare_action.RegKind st rest e = done 29 e
fit_declare declare_action.NoKind st rest e = done 29 e
fit_declare declare_action.Signed st rest e = done 30 e
fit_declare declare_action.Unsigned st rest e = done 30 e
fit_declare declare_action.PlainRegister st rest e = has_name (Makes 31 rest) _ st _ e (λ x0 st0 e0. done 31 e0)
fit_declare declare_action.InitializedRegister st rest e = has_expr (Makes 31 rest) _ st _ e (λ x0 st0 e0. has_name (Makes 31 rest) _ st0 _ e0 (λ x1 st1 e1. done 31 e1))
fit_declare declare_action.Memory st rest e = has_range (Makes 31 rest) _ st _ e (λ x0 st0 e0. has_name (Makes 31 rest) _ st0 _ e0 (λ x1 st1 e1. done 31 e1))
fit_declare declare_action.NoRegisters st rest e = done 32 e
fit_declare declare_action.AddRegister st rest e = has_register (Makes 32 rest) _ st _ e (λ x0 st0 e0. has_registers (Makes 32 rest) _ st0 _ e0 (λ x1 st1 e1. done 32 e1))

fit_connect : (a : ConnectionAction) (st : Values) (rest : List ℕ) → sorts_of st ≡ (signature_of_connect a).takes ++ rest → Makes (signature_of_connect a).gives rest st (after_connection_action a st)
fit_connect connect_action.Ordered st rest e = has_expr (Makes 33 rest) _ st _ e (λ x0 st0 e0. done 33 e0)
fit_connect connect_action.NoOrdered st rest e = done 34 e
fit_connect connect_action.AddOrdered st rest e = has_ordered (Makes 34 rest) _ st _ e (λ x0 st0 e0. has_ordered_values (Makes 34 rest) _ st0 _ e0 (λ x1 st1 e1. done 34 e1))
fit_connect connect_action.Named st rest e = has_expr_option (Makes 35 rest) _ st _ e (λ x0 st0 e0. has_name (Makes 35 rest) _ st0 _ e0 (λ x1 st1 e1. has_place (Makes 35 rest) _ st1 _ e1 (λ x2 st2 e2. done 35 e2)))
fit_connect connect_action.NoNamed st rest e = done 36 e
fit_connect connect_action.AddNamed st rest e = has_named (Makes 36 rest) _ st _ e (λ x0 st0 e0. has_named_values (Makes 36 rest) _ st0 _ e0 (λ x1 st1 e1. done 36 e1))
fit_connect connect_action.NoConnections st rest e = done 37 e
fit_connect connect_action.OrderedConnections st rest e = has_ordered_values (Makes 37 rest) _ st _ e (λ x0 st0 e0. done 37 e0)
fit_connect connect_action.NamedConnections st rest e = has_named_values (Makes 37 rest) _ st _ e (λ x0 st0 e0. done 37 e0)
fit_connect connect_action.SomeOverrides st rest e = has_connections (Makes 38 rest) _ st _ e (λ x0 st0 e0. done 38 e0)
fit_connect connect_action.NoOverrides st rest e = done 38 e
fit_connect connect_action.Instance st rest e = has_connections (Makes 39 rest) _ st _ e (λ x0 st0 e0. has_name (Makes 39 rest) _ st0 _ e0 (λ x1 st1 e1. done 39 e1))
fit_connect connect_action.NoInstances st rest e = done 40 e
fit_connect connect_action.AddInstance st rest e = has_instance (Makes 40 rest) _ st _ e (λ x0 st0 e0. has_instances (Makes 40 rest) _ st0 _ e0 (λ x1 st1 e1. done 40 e1))
fit_connect connect_action.NetAssignment st rest e = has_expr (Makes 41 rest) _ st _ e (λ x0 st0 e0. has_target (Makes 41 rest) _ st0 _ e0 (λ x1 st1 e1. done 41 e1))
fit_connect connect_action.NoNetAssignments st rest e = done 42 e
fit_connect connect_action.AddNetAssignment st rest e = has_net_assignment (Makes 42 rest) _ st _ e (λ x0 st0 e0. has_net_assignments (Makes 42 rest) _ st0 _ e0 (λ x1 st1 e1. done 42 e1))
fit_connect connect_action.AnyEvent st rest e = done 43 e
fit_connect connect_action.PosedgeEvent st rest e = has_name (Makes 43 rest) _ st _ e (λ x0 st0 e0. done 43 e0)
fit_connect connect_action.NamesEvent st rest e = has_names (Makes 43 rest) _ st _ e (λ x0 st0 e0. done 43 e0)

fit_module : (a : ModuleAction) (st : Values) (rest : List ℕ) → sorts_of st ≡ (signature_of_module a).takes ++ rest → Makes (signature_of_module a).gives rest st (after_module_action a st)
fit_module module_action.PortItem st rest e = has_declared_names (Makes 44 rest) _ st _ e (λ x0 st0 e0. has_range_option (Makes 44 rest) _ st0 _ e0 (λ x1 st1 e1. has_sign (Makes 44 rest) _ st1 _ e1 (λ x2 st2 e2. has_net_kind (Makes 44 rest) _ st2 _ e2 (λ x3 st3 e3. has_direction (Makes 44 rest) _ st3 _ e3 (λ x4 st4 e4. done 44 e4)))))
fit_module module_action.NetItem st rest e = has_declarators (Makes 44 rest) _ st _ e (λ x0 st0 e0. has_range_option (Makes 44 rest) _ st0 _ e0 (λ x1 st1 e1. has_sign (Makes 44 rest) _ st1 _ e1 (λ x2 st2 e2. has_place (Makes 44 rest) _ st2 _ e2 (λ x3 st3 e3. done 44 e3))))
fit_module module_action.RegItem st rest e = has_registers (Makes 44 rest) _ st _ e (λ x0 st0 e0. has_range_option (Makes 44 rest) _ st0 _ e0 (λ x1 st1 e1. has_sign (Makes 44 rest) _ st1 _ e1 (λ x2 st2 e2. has_place (Makes 44 rest) _ st2 _ e2 (λ x3 st3 e3. done 44 e3))))
fit_module module_action.IntegerItem st rest e = has_declared_names (Makes 44 rest) _ st _ e (λ x0 st0 e0. has_place (Makes 44 rest) _ st0 _ e0 (λ x1 st1 e1. done 44 e1))
fit_module module_action.ParameterItem st rest e = has_parameters (Makes 44 rest) _ st _ e (λ x0 st0 e0. has_parameter_range (Makes 44 rest) _ st0 _ e0 (λ x1 st1 e1. has_place (Makes 44 rest) _ st1 _ e1 (λ x2 st2 e2. done 44 e2)))
fit_module module_action.LocalParameterItem st rest e = has_parameters (Makes 44 rest) _ st _ e (λ x0 st0 e0. has_parameter_range (Makes 44 rest) _ st0 _ e0 (λ x1 st1 e1. has_place (Makes 44 rest) _ st1 _ e1 (λ x2 st2 e2. done 44 e2)))
fit_module module_action.AssignItem st rest e = has_net_assignments (Makes 44 rest) _ st _ e (λ x0 st0 e0. has_place (Makes 44 rest) _ st0 _ e0 (λ x1 st1 e1. done 44 e1))
fit_module module_action.AlwaysItem st rest e = has_stmt (Makes 44 rest) _ st _ e (λ x0 st0 e0. has_event (Makes 44 rest) _ st0 _ e0 (λ x1 st1 e1. has_place (Makes 44 rest) _ st1 _ e1 (λ x2 st2 e2. done 44 e2)))
fit_module module_action.InitialItem st rest e = has_stmt (Makes 44 rest) _ st _ e (λ x0 st0 e0. has_place (Makes 44 rest) _ st0 _ e0 (λ x1 st1 e1. done 44 e1))
fit_module module_action.InstancesItem st rest e = has_instances (Makes 44 rest) _ st _ e (λ x0 st0 e0. has_overrides (Makes 44 rest) _ st0 _ e0 (λ x1 st1 e1. has_name (Makes 44 rest) _ st1 _ e1 (λ x2 st2 e2. done 44 e2)))
fit_module module_action.NoItems st rest e = done 45 e
fit_module module_action.AddItem st rest e = has_item (Makes 45 rest) _ st _ e (λ x0 st0 e0. has_items (Makes 45 rest) _ st0 _ e0 (λ x1 st1 e1. done 45 e1))
fit_module module_action.NoGroups st rest e = done 46 e
fit_module module_action.CloseGroup st rest e = has_parameters (Makes 46 rest) _ st _ e (λ x0 st0 e0. has_parameter_range (Makes 46 rest) _ st0 _ e0 (λ x1 st1 e1. has_place (Makes 46 rest) _ st1 _ e1 (λ x2 st2 e2. has_groups (Makes 46 rest) _ st2 _ e2 (λ x3 st3 e3. done 46 e3))))
fit_module module_action.NoPorts st rest e = done 47 e
fit_module module_action.ClosePort st rest e = has_declarators (Makes 47 rest) _ st _ e (λ x0 st0 e0. has_range_option (Makes 47 rest) _ st0 _ e0 (λ x1 st1 e1. has_sign (Makes 47 rest) _ st1 _ e1 (λ x2 st2 e2. has_net_kind (Makes 47 rest) _ st2 _ e2 (λ x3 st3 e3. has_direction (Makes 47 rest) _ st3 _ e3 (λ x4 st4 e4. has_ports (Makes 47 rest) _ st4 _ e4 (λ x5 st5 e5. done 47 e5))))))
fit_module module_action.AbsentHeader st rest e = done 48 e
fit_module module_action.EmptyHeader st rest e = done 48 e
fit_module module_action.HeaderNames st rest e = has_names (Makes 48 rest) _ st _ e (λ x0 st0 e0. done 48 e0)
fit_module module_action.HeaderPorts st rest e = has_ports (Makes 48 rest) _ st _ e (λ x0 st0 e0. done 48 e0)
fit_module module_action.Module st rest e = has_items (Makes 49 rest) _ st _ e (λ x0 st0 e0. has_header (Makes 49 rest) _ st0 _ e0 (λ x1 st1 e1. has_groups (Makes 49 rest) _ st1 _ e1 (λ x2 st2 e2. has_name (Makes 49 rest) _ st2 _ e2 (λ x3 st3 e3. has_place (Makes 49 rest) _ st3 _ e3 (λ x4 st4 e4. done 49 e4)))))
fit_module module_action.NoModules st rest e = done 50 e
fit_module module_action.AddModule st rest e = has_module (Makes 50 rest) _ st _ e (λ x0 st0 e0. has_modules (Makes 50 rest) _ st0 _ e0 (λ x1 st1 e1. done 50 e1))
fit_module module_action.Source st rest e = has_modules (Makes 51 rest) _ st _ e (λ x0 st0 e0. done 51 e0)

-- an action that finds the sorts that it takes gives a value of the sort that it gives
pub fit : (x : Lexemes) (a : Action) (i : ℕ) (st : Values) (rest : List ℕ) → sorts_of st ≡ (signature a).takes ++ rest →
    Makes (signature a).gives rest st (after_action x a i st)
fit x (action.Token a) i st rest e = fit_token x a (i - 1) st rest e
fit x (action.Expression a) i st rest e = fit_expr a st rest e
fit x (action.Statement a) i st rest e = fit_stmt a st rest e
fit x (action.Declaration a) i st rest e = fit_declare a st rest e
fit x (action.Connection a) i st rest e = fit_connect a st rest e
fit x (action.Module a) i st rest e = fit_module a st rest e
