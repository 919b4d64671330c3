-- A stack whose top is of a sort has a value of that sort on top.
use Rattle.std.proofs.Common.{◌≡◌, ℕ, Bool, List, [], ◌∷◌, Option, Some, true, false, nat_eq, refl, eq-eqb, ap}
use Rattle.src_text.specs.declared.refusal.Place.{Place}
use Rattle.v_tree.specs.declared.stmt.AssignmentKind.{AssignmentKind}
use Rattle.v_tree.specs.declared.expr.BasedNumber.{BasedNumber}
use Rattle.v_tree.specs.declared.expr.BinaryOperator.{BinaryOperator}
use Rattle.v_tree.specs.declared.stmt.CaseItem.{CaseItem}
use Rattle.v_tree.specs.declared.item.Connections.{Connections}
use Rattle.v_tree.specs.declared.expr.DecimalNumber.{DecimalNumber}
use Rattle.v_tree.specs.declared.item.Declarator.{Declarator}
use Rattle.v_tree.specs.declared.item.Direction.{Direction}
use Rattle.v_tree.specs.declared.item.Event.{Event}
use Rattle.v_tree.specs.declared.expr.Expr.{Expr}
use Rattle.v_tree.specs.declared.item.Header.{Header}
use Rattle.v_tree.specs.declared.name.Identifier.{Identifier}
use Rattle.v_tree.specs.declared.item.Instance.{Instance}
use Rattle.v_tree.specs.declared.item.Item.{Item}
use Rattle.v_tree.specs.declared.item.Module.{Module}
use Rattle.v_tree.specs.declared.item.NamedConnection.{NamedConnection}
use Rattle.v_tree.specs.declared.item.NetAssignment.{NetAssignment}
use Rattle.v_tree.specs.declared.item.NetKind.{NetKind}
use Rattle.v_tree.specs.declared.item.ParameterAssignment.{ParameterAssignment}
use Rattle.v_tree.specs.declared.item.ParameterDeclaration.{ParameterDeclaration}
use Rattle.v_tree.specs.declared.item.ParameterRange.{ParameterRange}
use Rattle.v_tree.specs.declared.item.Port.{Port}
use Rattle.v_tree.specs.declared.item.Range.{Range}
use Rattle.v_tree.specs.declared.item.Register.{Register}
use Rattle.v_tree.specs.declared.expr.Selection.{Selection}
use Rattle.v_tree.specs.declared.stmt.Stmt.{Stmt}
use Rattle.v_tree.specs.declared.stmt.Target.{Target}
use Rattle.v_tree.specs.declared.expr.UnaryOperator.{UnaryOperator}
use Rattle.v_stack.specs.declared.values.Value.TheVariants as Value
use Rattle.v_stack.specs.declared.values.TokenValue.TheVariants as TokenValue
use Rattle.v_stack.specs.declared.values.ExprValue.TheVariants as ExprValue
use Rattle.v_stack.specs.declared.values.StmtValue.TheVariants as StmtValue
use Rattle.v_stack.specs.declared.values.DeclareValue.TheVariants as DeclareValue
use Rattle.v_stack.specs.declared.values.NamesValue.TheVariants as NamesValue
use Rattle.v_stack.specs.declared.values.ConnectValue.TheVariants as ConnectValue
use Rattle.v_stack.specs.declared.values.PartValue.TheVariants as PartValue
use Rattle.v_stack.specs.declared.values.ModuleValue.TheVariants as ModuleValue
use Rattle.v_stack.specs.Values.{Values, Goes, with_place, with_name, with_declared, with_unary_operator, with_binary_operator, with_decimal, with_based, with_direction, with_expr, with_exprs, with_expr_option, with_selection, with_range, with_range_option, with_target, with_targets, with_assignment_kind, with_label, with_stmt, with_stmts, with_case_item, with_case_items, with_sign, with_net_kind, with_parameter_range, with_parameter, with_parameters, with_groups, with_names, with_declared_names, with_declarator, with_declarators, with_register, with_registers, with_ordered, with_ordered_values, with_named, with_named_values, with_connections, with_overrides, with_instance, with_instances, with_net_assignment, with_net_assignments, with_event, with_ports, with_header, with_item, with_items, with_module, with_modules}
use Rattle.v_actions.specs.Sorts.{sorts_of}
use Rattle.v_actions.specs.Reading.{BuildsTree}

tails : {x y : ℕ} {xs ys : List ℕ} → x ∷ xs ≡ y ∷ ys → xs ≡ ys
tails e = cc

differ : {A : Type 0} {x y : ℕ} {xs ys : List ℕ} → nat_eq x y ≡ false → x ∷ xs ≡ y ∷ ys → A
differ {x = x} {y = y} n e = let h : x ≡ y = cc in let t : nat_eq x y ≡ true = eq-eqb x y h in let f : ⊥ = cc in absurd f

lacks : {A : Type 0} {y : ℕ} {ys : List ℕ} → [] ≡ y ∷ ys → A
lacks e = let f : ⊥ = cc in absurd f

empty : (rest : Values) → sorts_of rest ≡ [] → rest ≡ []
empty [] e = refl
empty (v ∷ st) e = let f : ⊥ = cc in absurd f

pub has_place : (P : Values → Option Values → Type 0) (go : Goes Place) (st : Values) (ys : List ℕ) → sorts_of st ≡ 1 ∷ ys →
    ((x : Place) (rest : Values) → sorts_of rest ≡ ys → P (Value.Token (TokenValue.Place x) ∷ rest) (go x rest)) → P st (with_place st go)
has_place P go (Value.Token (TokenValue.Place x) ∷ st) ys e k = k x st (tails e)
has_place P go (Value.Expr (ExprValue.Expr x) ∷ st) ys e k = differ refl e
has_place P go (Value.Stmt (StmtValue.Target x) ∷ st) ys e k = differ refl e
has_place P go (Value.Declare (DeclareValue.Sign x) ∷ st) ys e k = differ refl e
has_place P go (Value.Names (NamesValue.Names x) ∷ st) ys e k = differ refl e
has_place P go (Value.Connect (ConnectValue.Ordered x) ∷ st) ys e k = differ refl e
has_place P go (Value.Part (PartValue.Instance x) ∷ st) ys e k = differ refl e
has_place P go (Value.Module (ModuleValue.Ports x) ∷ st) ys e k = differ refl e
has_place P go (_ ∷ st) ys e k = differ refl e
has_place P go [] ys e k = lacks e

pub has_name : (P : Values → Option Values → Type 0) (go : Goes Identifier) (st : Values) (ys : List ℕ) → sorts_of st ≡ 2 ∷ ys →
    ((x : Identifier) (rest : Values) → sorts_of rest ≡ ys → P (Value.Token (TokenValue.Name x) ∷ rest) (go x rest)) → P st (with_name st go)
has_name P go (Value.Token (TokenValue.Name x) ∷ st) ys e k = k x st (tails e)
has_name P go (Value.Expr (ExprValue.Expr x) ∷ st) ys e k = differ refl e
has_name P go (Value.Stmt (StmtValue.Target x) ∷ st) ys e k = differ refl e
has_name P go (Value.Declare (DeclareValue.Sign x) ∷ st) ys e k = differ refl e
has_name P go (Value.Names (NamesValue.Names x) ∷ st) ys e k = differ refl e
has_name P go (Value.Connect (ConnectValue.Ordered x) ∷ st) ys e k = differ refl e
has_name P go (Value.Part (PartValue.Instance x) ∷ st) ys e k = differ refl e
has_name P go (Value.Module (ModuleValue.Ports x) ∷ st) ys e k = differ refl e
has_name P go (_ ∷ st) ys e k = differ refl e
has_name P go [] ys e k = lacks e

pub has_declared : (P : Values → Option Values → Type 0) (go : Goes Identifier) (st : Values) (ys : List ℕ) → sorts_of st ≡ 3 ∷ ys →
    ((x : Identifier) (rest : Values) → sorts_of rest ≡ ys → P (Value.Token (TokenValue.Declared x) ∷ rest) (go x rest)) → P st (with_declared st go)
has_declared P go (Value.Token (TokenValue.Declared x) ∷ st) ys e k = k x st (tails e)
has_declared P go (Value.Expr (ExprValue.Expr x) ∷ st) ys e k = differ refl e
has_declared P go (Value.Stmt (StmtValue.Target x) ∷ st) ys e k = differ refl e
has_declared P go (Value.Declare (DeclareValue.Sign x) ∷ st) ys e k = differ refl e
has_declared P go (Value.Names (NamesValue.Names x) ∷ st) ys e k = differ refl e
has_declared P go (Value.Connect (ConnectValue.Ordered x) ∷ st) ys e k = differ refl e
has_declared P go (Value.Part (PartValue.Instance x) ∷ st) ys e k = differ refl e
has_declared P go (Value.Module (ModuleValue.Ports x) ∷ st) ys e k = differ refl e
has_declared P go (_ ∷ st) ys e k = differ refl e
has_declared P go [] ys e k = lacks e

pub has_unary_operator : (P : Values → Option Values → Type 0) (go : Goes UnaryOperator) (st : Values) (ys : List ℕ) → sorts_of st ≡ 7 ∷ ys →
    ((x : UnaryOperator) (rest : Values) → sorts_of rest ≡ ys → P (Value.Token (TokenValue.UnaryOperator x) ∷ rest) (go x rest)) → P st (with_unary_operator st go)
has_unary_operator P go (Value.Token (TokenValue.UnaryOperator x) ∷ st) ys e k = k x st (tails e)
has_unary_operator P go (Value.Expr (ExprValue.Expr x) ∷ st) ys e k = differ refl e
has_unary_operator P go (Value.Stmt (StmtValue.Target x) ∷ st) ys e k = differ refl e
has_unary_operator P go (Value.Declare (DeclareValue.Sign x) ∷ st) ys e k = differ refl e
has_unary_operator P go (Value.Names (NamesValue.Names x) ∷ st) ys e k = differ refl e
has_unary_operator P go (Value.Connect (ConnectValue.Ordered x) ∷ st) ys e k = differ refl e
has_unary_operator P go (Value.Part (PartValue.Instance x) ∷ st) ys e k = differ refl e
has_unary_operator P go (Value.Module (ModuleValue.Ports x) ∷ st) ys e k = differ refl e
has_unary_operator P go (_ ∷ st) ys e k = differ refl e
has_unary_operator P go [] ys e k = lacks e

pub has_binary_operator : (P : Values → Option Values → Type 0) (go : Goes BinaryOperator) (st : Values) (ys : List ℕ) → sorts_of st ≡ 8 ∷ ys →
    ((x : BinaryOperator) (rest : Values) → sorts_of rest ≡ ys → P (Value.Token (TokenValue.BinaryOperator x) ∷ rest) (go x rest)) → P st (with_binary_operator st go)
has_binary_operator P go (Value.Token (TokenValue.BinaryOperator x) ∷ st) ys e k = k x st (tails e)
has_binary_operator P go (Value.Expr (ExprValue.Expr x) ∷ st) ys e k = differ refl e
has_binary_operator P go (Value.Stmt (StmtValue.Target x) ∷ st) ys e k = differ refl e
has_binary_operator P go (Value.Declare (DeclareValue.Sign x) ∷ st) ys e k = differ refl e
has_binary_operator P go (Value.Names (NamesValue.Names x) ∷ st) ys e k = differ refl e
has_binary_operator P go (Value.Connect (ConnectValue.Ordered x) ∷ st) ys e k = differ refl e
has_binary_operator P go (Value.Part (PartValue.Instance x) ∷ st) ys e k = differ refl e
has_binary_operator P go (Value.Module (ModuleValue.Ports x) ∷ st) ys e k = differ refl e
has_binary_operator P go (_ ∷ st) ys e k = differ refl e
has_binary_operator P go [] ys e k = lacks e

pub has_decimal : (P : Values → Option Values → Type 0) (go : Goes DecimalNumber) (st : Values) (ys : List ℕ) → sorts_of st ≡ 4 ∷ ys →
    ((x : DecimalNumber) (rest : Values) → sorts_of rest ≡ ys → P (Value.Token (TokenValue.Decimal x) ∷ rest) (go x rest)) → P st (with_decimal st go)
has_decimal P go (Value.Token (TokenValue.Decimal x) ∷ st) ys e k = k x st (tails e)
has_decimal P go (Value.Expr (ExprValue.Expr x) ∷ st) ys e k = differ refl e
has_decimal P go (Value.Stmt (StmtValue.Target x) ∷ st) ys e k = differ refl e
has_decimal P go (Value.Declare (DeclareValue.Sign x) ∷ st) ys e k = differ refl e
has_decimal P go (Value.Names (NamesValue.Names x) ∷ st) ys e k = differ refl e
has_decimal P go (Value.Connect (ConnectValue.Ordered x) ∷ st) ys e k = differ refl e
has_decimal P go (Value.Part (PartValue.Instance x) ∷ st) ys e k = differ refl e
has_decimal P go (Value.Module (ModuleValue.Ports x) ∷ st) ys e k = differ refl e
has_decimal P go (_ ∷ st) ys e k = differ refl e
has_decimal P go [] ys e k = lacks e

pub has_based : (P : Values → Option Values → Type 0) (go : Goes BasedNumber) (st : Values) (ys : List ℕ) → sorts_of st ≡ 5 ∷ ys →
    ((x : BasedNumber) (rest : Values) → sorts_of rest ≡ ys → P (Value.Token (TokenValue.Based x) ∷ rest) (go x rest)) → P st (with_based st go)
has_based P go (Value.Token (TokenValue.Based x) ∷ st) ys e k = k x st (tails e)
has_based P go (Value.Expr (ExprValue.Expr x) ∷ st) ys e k = differ refl e
has_based P go (Value.Stmt (StmtValue.Target x) ∷ st) ys e k = differ refl e
has_based P go (Value.Declare (DeclareValue.Sign x) ∷ st) ys e k = differ refl e
has_based P go (Value.Names (NamesValue.Names x) ∷ st) ys e k = differ refl e
has_based P go (Value.Connect (ConnectValue.Ordered x) ∷ st) ys e k = differ refl e
has_based P go (Value.Part (PartValue.Instance x) ∷ st) ys e k = differ refl e
has_based P go (Value.Module (ModuleValue.Ports x) ∷ st) ys e k = differ refl e
has_based P go (_ ∷ st) ys e k = differ refl e
has_based P go [] ys e k = lacks e

pub has_direction : (P : Values → Option Values → Type 0) (go : Goes Direction) (st : Values) (ys : List ℕ) → sorts_of st ≡ 6 ∷ ys →
    ((x : Direction) (rest : Values) → sorts_of rest ≡ ys → P (Value.Token (TokenValue.Direction x) ∷ rest) (go x rest)) → P st (with_direction st go)
has_direction P go (Value.Token (TokenValue.Direction x) ∷ st) ys e k = k x st (tails e)
has_direction P go (Value.Expr (ExprValue.Expr x) ∷ st) ys e k = differ refl e
has_direction P go (Value.Stmt (StmtValue.Target x) ∷ st) ys e k = differ refl e
has_direction P go (Value.Declare (DeclareValue.Sign x) ∷ st) ys e k = differ refl e
has_direction P go (Value.Names (NamesValue.Names x) ∷ st) ys e k = differ refl e
has_direction P go (Value.Connect (ConnectValue.Ordered x) ∷ st) ys e k = differ refl e
has_direction P go (Value.Part (PartValue.Instance x) ∷ st) ys e k = differ refl e
has_direction P go (Value.Module (ModuleValue.Ports x) ∷ st) ys e k = differ refl e
has_direction P go (_ ∷ st) ys e k = differ refl e
has_direction P go [] ys e k = lacks e

pub has_expr : (P : Values → Option Values → Type 0) (go : Goes Expr) (st : Values) (ys : List ℕ) → sorts_of st ≡ 9 ∷ ys →
    ((x : Expr) (rest : Values) → sorts_of rest ≡ ys → P (Value.Expr (ExprValue.Expr x) ∷ rest) (go x rest)) → P st (with_expr st go)
has_expr P go (Value.Expr (ExprValue.Expr x) ∷ st) ys e k = k x st (tails e)
has_expr P go (Value.Token (TokenValue.Place x) ∷ st) ys e k = differ refl e
has_expr P go (Value.Stmt (StmtValue.Target x) ∷ st) ys e k = differ refl e
has_expr P go (Value.Declare (DeclareValue.Sign x) ∷ st) ys e k = differ refl e
has_expr P go (Value.Names (NamesValue.Names x) ∷ st) ys e k = differ refl e
has_expr P go (Value.Connect (ConnectValue.Ordered x) ∷ st) ys e k = differ refl e
has_expr P go (Value.Part (PartValue.Instance x) ∷ st) ys e k = differ refl e
has_expr P go (Value.Module (ModuleValue.Ports x) ∷ st) ys e k = differ refl e
has_expr P go (_ ∷ st) ys e k = differ refl e
has_expr P go [] ys e k = lacks e

pub has_exprs : (P : Values → Option Values → Type 0) (go : Goes (List Expr)) (st : Values) (ys : List ℕ) → sorts_of st ≡ 0 ∷ ys →
    ((x : (List Expr)) (rest : Values) → sorts_of rest ≡ ys → P (Value.Expr (ExprValue.Exprs x) ∷ rest) (go x rest)) → P st (with_exprs st go)
has_exprs P go (Value.Expr (ExprValue.Exprs x) ∷ st) ys e k = k x st (tails e)
has_exprs P go (Value.Token (TokenValue.Place x) ∷ st) ys e k = differ refl e
has_exprs P go (Value.Stmt (StmtValue.Target x) ∷ st) ys e k = differ refl e
has_exprs P go (Value.Declare (DeclareValue.Sign x) ∷ st) ys e k = differ refl e
has_exprs P go (Value.Names (NamesValue.Names x) ∷ st) ys e k = differ refl e
has_exprs P go (Value.Connect (ConnectValue.Ordered x) ∷ st) ys e k = differ refl e
has_exprs P go (Value.Part (PartValue.Instance x) ∷ st) ys e k = differ refl e
has_exprs P go (Value.Module (ModuleValue.Ports x) ∷ st) ys e k = differ refl e
has_exprs P go (_ ∷ st) ys e k = differ refl e
has_exprs P go [] ys e k = lacks e

pub has_expr_option : (P : Values → Option Values → Type 0) (go : Goes (Option Expr)) (st : Values) (ys : List ℕ) → sorts_of st ≡ 11 ∷ ys →
    ((x : (Option Expr)) (rest : Values) → sorts_of rest ≡ ys → P (Value.Expr (ExprValue.ExprOption x) ∷ rest) (go x rest)) → P st (with_expr_option st go)
has_expr_option P go (Value.Expr (ExprValue.ExprOption x) ∷ st) ys e k = k x st (tails e)
has_expr_option P go (Value.Token (TokenValue.Place x) ∷ st) ys e k = differ refl e
has_expr_option P go (Value.Stmt (StmtValue.Target x) ∷ st) ys e k = differ refl e
has_expr_option P go (Value.Declare (DeclareValue.Sign x) ∷ st) ys e k = differ refl e
has_expr_option P go (Value.Names (NamesValue.Names x) ∷ st) ys e k = differ refl e
has_expr_option P go (Value.Connect (ConnectValue.Ordered x) ∷ st) ys e k = differ refl e
has_expr_option P go (Value.Part (PartValue.Instance x) ∷ st) ys e k = differ refl e
has_expr_option P go (Value.Module (ModuleValue.Ports x) ∷ st) ys e k = differ refl e
has_expr_option P go (_ ∷ st) ys e k = differ refl e
has_expr_option P go [] ys e k = lacks e

pub has_selection : (P : Values → Option Values → Type 0) (go : Goes Selection) (st : Values) (ys : List ℕ) → sorts_of st ≡ 10 ∷ ys →
    ((x : Selection) (rest : Values) → sorts_of rest ≡ ys → P (Value.Expr (ExprValue.Selection x) ∷ rest) (go x rest)) → P st (with_selection st go)
has_selection P go (Value.Expr (ExprValue.Selection x) ∷ st) ys e k = k x st (tails e)
has_selection P go (Value.Token (TokenValue.Place x) ∷ st) ys e k = differ refl e
has_selection P go (Value.Stmt (StmtValue.Target x) ∷ st) ys e k = differ refl e
has_selection P go (Value.Declare (DeclareValue.Sign x) ∷ st) ys e k = differ refl e
has_selection P go (Value.Names (NamesValue.Names x) ∷ st) ys e k = differ refl e
has_selection P go (Value.Connect (ConnectValue.Ordered x) ∷ st) ys e k = differ refl e
has_selection P go (Value.Part (PartValue.Instance x) ∷ st) ys e k = differ refl e
has_selection P go (Value.Module (ModuleValue.Ports x) ∷ st) ys e k = differ refl e
has_selection P go (_ ∷ st) ys e k = differ refl e
has_selection P go [] ys e k = lacks e

pub has_range : (P : Values → Option Values → Type 0) (go : Goes Range) (st : Values) (ys : List ℕ) → sorts_of st ≡ 20 ∷ ys →
    ((x : Range) (rest : Values) → sorts_of rest ≡ ys → P (Value.Expr (ExprValue.Range x) ∷ rest) (go x rest)) → P st (with_range st go)
has_range P go (Value.Expr (ExprValue.Range x) ∷ st) ys e k = k x st (tails e)
has_range P go (Value.Token (TokenValue.Place x) ∷ st) ys e k = differ refl e
has_range P go (Value.Stmt (StmtValue.Target x) ∷ st) ys e k = differ refl e
has_range P go (Value.Declare (DeclareValue.Sign x) ∷ st) ys e k = differ refl e
has_range P go (Value.Names (NamesValue.Names x) ∷ st) ys e k = differ refl e
has_range P go (Value.Connect (ConnectValue.Ordered x) ∷ st) ys e k = differ refl e
has_range P go (Value.Part (PartValue.Instance x) ∷ st) ys e k = differ refl e
has_range P go (Value.Module (ModuleValue.Ports x) ∷ st) ys e k = differ refl e
has_range P go (_ ∷ st) ys e k = differ refl e
has_range P go [] ys e k = lacks e

pub has_range_option : (P : Values → Option Values → Type 0) (go : Goes (Option Range)) (st : Values) (ys : List ℕ) → sorts_of st ≡ 21 ∷ ys →
    ((x : (Option Range)) (rest : Values) → sorts_of rest ≡ ys → P (Value.Expr (ExprValue.RangeOption x) ∷ rest) (go x rest)) → P st (with_range_option st go)
has_range_option P go (Value.Expr (ExprValue.RangeOption x) ∷ st) ys e k = k x st (tails e)
has_range_option P go (Value.Token (TokenValue.Place x) ∷ st) ys e k = differ refl e
has_range_option P go (Value.Stmt (StmtValue.Target x) ∷ st) ys e k = differ refl e
has_range_option P go (Value.Declare (DeclareValue.Sign x) ∷ st) ys e k = differ refl e
has_range_option P go (Value.Names (NamesValue.Names x) ∷ st) ys e k = differ refl e
has_range_option P go (Value.Connect (ConnectValue.Ordered x) ∷ st) ys e k = differ refl e
has_range_option P go (Value.Part (PartValue.Instance x) ∷ st) ys e k = differ refl e
has_range_option P go (Value.Module (ModuleValue.Ports x) ∷ st) ys e k = differ refl e
has_range_option P go (_ ∷ st) ys e k = differ refl e
has_range_option P go [] ys e k = lacks e

pub has_target : (P : Values → Option Values → Type 0) (go : Goes Target) (st : Values) (ys : List ℕ) → sorts_of st ≡ 12 ∷ ys →
    ((x : Target) (rest : Values) → sorts_of rest ≡ ys → P (Value.Stmt (StmtValue.Target x) ∷ rest) (go x rest)) → P st (with_target st go)
has_target P go (Value.Stmt (StmtValue.Target x) ∷ st) ys e k = k x st (tails e)
has_target P go (Value.Token (TokenValue.Place x) ∷ st) ys e k = differ refl e
has_target P go (Value.Expr (ExprValue.Expr x) ∷ st) ys e k = differ refl e
has_target P go (Value.Declare (DeclareValue.Sign x) ∷ st) ys e k = differ refl e
has_target P go (Value.Names (NamesValue.Names x) ∷ st) ys e k = differ refl e
has_target P go (Value.Connect (ConnectValue.Ordered x) ∷ st) ys e k = differ refl e
has_target P go (Value.Part (PartValue.Instance x) ∷ st) ys e k = differ refl e
has_target P go (Value.Module (ModuleValue.Ports x) ∷ st) ys e k = differ refl e
has_target P go (_ ∷ st) ys e k = differ refl e
has_target P go [] ys e k = lacks e

pub has_targets : (P : Values → Option Values → Type 0) (go : Goes (List Target)) (st : Values) (ys : List ℕ) → sorts_of st ≡ 13 ∷ ys →
    ((x : (List Target)) (rest : Values) → sorts_of rest ≡ ys → P (Value.Stmt (StmtValue.Targets x) ∷ rest) (go x rest)) → P st (with_targets st go)
has_targets P go (Value.Stmt (StmtValue.Targets x) ∷ st) ys e k = k x st (tails e)
has_targets P go (Value.Token (TokenValue.Place x) ∷ st) ys e k = differ refl e
has_targets P go (Value.Expr (ExprValue.Expr x) ∷ st) ys e k = differ refl e
has_targets P go (Value.Declare (DeclareValue.Sign x) ∷ st) ys e k = differ refl e
has_targets P go (Value.Names (NamesValue.Names x) ∷ st) ys e k = differ refl e
has_targets P go (Value.Connect (ConnectValue.Ordered x) ∷ st) ys e k = differ refl e
has_targets P go (Value.Part (PartValue.Instance x) ∷ st) ys e k = differ refl e
has_targets P go (Value.Module (ModuleValue.Ports x) ∷ st) ys e k = differ refl e
has_targets P go (_ ∷ st) ys e k = differ refl e
has_targets P go [] ys e k = lacks e

pub has_assignment_kind : (P : Values → Option Values → Type 0) (go : Goes AssignmentKind) (st : Values) (ys : List ℕ) → sorts_of st ≡ 14 ∷ ys →
    ((x : AssignmentKind) (rest : Values) → sorts_of rest ≡ ys → P (Value.Stmt (StmtValue.AssignmentKind x) ∷ rest) (go x rest)) → P st (with_assignment_kind st go)
has_assignment_kind P go (Value.Stmt (StmtValue.AssignmentKind x) ∷ st) ys e k = k x st (tails e)
has_assignment_kind P go (Value.Token (TokenValue.Place x) ∷ st) ys e k = differ refl e
has_assignment_kind P go (Value.Expr (ExprValue.Expr x) ∷ st) ys e k = differ refl e
has_assignment_kind P go (Value.Declare (DeclareValue.Sign x) ∷ st) ys e k = differ refl e
has_assignment_kind P go (Value.Names (NamesValue.Names x) ∷ st) ys e k = differ refl e
has_assignment_kind P go (Value.Connect (ConnectValue.Ordered x) ∷ st) ys e k = differ refl e
has_assignment_kind P go (Value.Part (PartValue.Instance x) ∷ st) ys e k = differ refl e
has_assignment_kind P go (Value.Module (ModuleValue.Ports x) ∷ st) ys e k = differ refl e
has_assignment_kind P go (_ ∷ st) ys e k = differ refl e
has_assignment_kind P go [] ys e k = lacks e

pub has_label : (P : Values → Option Values → Type 0) (go : Goes (Option Identifier)) (st : Values) (ys : List ℕ) → sorts_of st ≡ 16 ∷ ys →
    ((x : (Option Identifier)) (rest : Values) → sorts_of rest ≡ ys → P (Value.Stmt (StmtValue.Label x) ∷ rest) (go x rest)) → P st (with_label st go)
has_label P go (Value.Stmt (StmtValue.Label x) ∷ st) ys e k = k x st (tails e)
has_label P go (Value.Token (TokenValue.Place x) ∷ st) ys e k = differ refl e
has_label P go (Value.Expr (ExprValue.Expr x) ∷ st) ys e k = differ refl e
has_label P go (Value.Declare (DeclareValue.Sign x) ∷ st) ys e k = differ refl e
has_label P go (Value.Names (NamesValue.Names x) ∷ st) ys e k = differ refl e
has_label P go (Value.Connect (ConnectValue.Ordered x) ∷ st) ys e k = differ refl e
has_label P go (Value.Part (PartValue.Instance x) ∷ st) ys e k = differ refl e
has_label P go (Value.Module (ModuleValue.Ports x) ∷ st) ys e k = differ refl e
has_label P go (_ ∷ st) ys e k = differ refl e
has_label P go [] ys e k = lacks e

pub has_stmt : (P : Values → Option Values → Type 0) (go : Goes Stmt) (st : Values) (ys : List ℕ) → sorts_of st ≡ 15 ∷ ys →
    ((x : Stmt) (rest : Values) → sorts_of rest ≡ ys → P (Value.Stmt (StmtValue.Stmt x) ∷ rest) (go x rest)) → P st (with_stmt st go)
has_stmt P go (Value.Stmt (StmtValue.Stmt x) ∷ st) ys e k = k x st (tails e)
has_stmt P go (Value.Token (TokenValue.Place x) ∷ st) ys e k = differ refl e
has_stmt P go (Value.Expr (ExprValue.Expr x) ∷ st) ys e k = differ refl e
has_stmt P go (Value.Declare (DeclareValue.Sign x) ∷ st) ys e k = differ refl e
has_stmt P go (Value.Names (NamesValue.Names x) ∷ st) ys e k = differ refl e
has_stmt P go (Value.Connect (ConnectValue.Ordered x) ∷ st) ys e k = differ refl e
has_stmt P go (Value.Part (PartValue.Instance x) ∷ st) ys e k = differ refl e
has_stmt P go (Value.Module (ModuleValue.Ports x) ∷ st) ys e k = differ refl e
has_stmt P go (_ ∷ st) ys e k = differ refl e
has_stmt P go [] ys e k = lacks e

pub has_stmts : (P : Values → Option Values → Type 0) (go : Goes (List Stmt)) (st : Values) (ys : List ℕ) → sorts_of st ≡ 17 ∷ ys →
    ((x : (List Stmt)) (rest : Values) → sorts_of rest ≡ ys → P (Value.Stmt (StmtValue.Stmts x) ∷ rest) (go x rest)) → P st (with_stmts st go)
has_stmts P go (Value.Stmt (StmtValue.Stmts x) ∷ st) ys e k = k x st (tails e)
has_stmts P go (Value.Token (TokenValue.Place x) ∷ st) ys e k = differ refl e
has_stmts P go (Value.Expr (ExprValue.Expr x) ∷ st) ys e k = differ refl e
has_stmts P go (Value.Declare (DeclareValue.Sign x) ∷ st) ys e k = differ refl e
has_stmts P go (Value.Names (NamesValue.Names x) ∷ st) ys e k = differ refl e
has_stmts P go (Value.Connect (ConnectValue.Ordered x) ∷ st) ys e k = differ refl e
has_stmts P go (Value.Part (PartValue.Instance x) ∷ st) ys e k = differ refl e
has_stmts P go (Value.Module (ModuleValue.Ports x) ∷ st) ys e k = differ refl e
has_stmts P go (_ ∷ st) ys e k = differ refl e
has_stmts P go [] ys e k = lacks e

pub has_case_item : (P : Values → Option Values → Type 0) (go : Goes CaseItem) (st : Values) (ys : List ℕ) → sorts_of st ≡ 19 ∷ ys →
    ((x : CaseItem) (rest : Values) → sorts_of rest ≡ ys → P (Value.Stmt (StmtValue.CaseItem x) ∷ rest) (go x rest)) → P st (with_case_item st go)
has_case_item P go (Value.Stmt (StmtValue.CaseItem x) ∷ st) ys e k = k x st (tails e)
has_case_item P go (Value.Token (TokenValue.Place x) ∷ st) ys e k = differ refl e
has_case_item P go (Value.Expr (ExprValue.Expr x) ∷ st) ys e k = differ refl e
has_case_item P go (Value.Declare (DeclareValue.Sign x) ∷ st) ys e k = differ refl e
has_case_item P go (Value.Names (NamesValue.Names x) ∷ st) ys e k = differ refl e
has_case_item P go (Value.Connect (ConnectValue.Ordered x) ∷ st) ys e k = differ refl e
has_case_item P go (Value.Part (PartValue.Instance x) ∷ st) ys e k = differ refl e
has_case_item P go (Value.Module (ModuleValue.Ports x) ∷ st) ys e k = differ refl e
has_case_item P go (_ ∷ st) ys e k = differ refl e
has_case_item P go [] ys e k = lacks e

pub has_case_items : (P : Values → Option Values → Type 0) (go : Goes (List CaseItem)) (st : Values) (ys : List ℕ) → sorts_of st ≡ 18 ∷ ys →
    ((x : (List CaseItem)) (rest : Values) → sorts_of rest ≡ ys → P (Value.Stmt (StmtValue.CaseItems x) ∷ rest) (go x rest)) → P st (with_case_items st go)
has_case_items P go (Value.Stmt (StmtValue.CaseItems x) ∷ st) ys e k = k x st (tails e)
has_case_items P go (Value.Token (TokenValue.Place x) ∷ st) ys e k = differ refl e
has_case_items P go (Value.Expr (ExprValue.Expr x) ∷ st) ys e k = differ refl e
has_case_items P go (Value.Declare (DeclareValue.Sign x) ∷ st) ys e k = differ refl e
has_case_items P go (Value.Names (NamesValue.Names x) ∷ st) ys e k = differ refl e
has_case_items P go (Value.Connect (ConnectValue.Ordered x) ∷ st) ys e k = differ refl e
has_case_items P go (Value.Part (PartValue.Instance x) ∷ st) ys e k = differ refl e
has_case_items P go (Value.Module (ModuleValue.Ports x) ∷ st) ys e k = differ refl e
has_case_items P go (_ ∷ st) ys e k = differ refl e
has_case_items P go [] ys e k = lacks e

pub has_sign : (P : Values → Option Values → Type 0) (go : Goes Bool) (st : Values) (ys : List ℕ) → sorts_of st ≡ 30 ∷ ys →
    ((x : Bool) (rest : Values) → sorts_of rest ≡ ys → P (Value.Declare (DeclareValue.Sign x) ∷ rest) (go x rest)) → P st (with_sign st go)
has_sign P go (Value.Declare (DeclareValue.Sign x) ∷ st) ys e k = k x st (tails e)
has_sign P go (Value.Token (TokenValue.Place x) ∷ st) ys e k = differ refl e
has_sign P go (Value.Expr (ExprValue.Expr x) ∷ st) ys e k = differ refl e
has_sign P go (Value.Stmt (StmtValue.Target x) ∷ st) ys e k = differ refl e
has_sign P go (Value.Names (NamesValue.Names x) ∷ st) ys e k = differ refl e
has_sign P go (Value.Connect (ConnectValue.Ordered x) ∷ st) ys e k = differ refl e
has_sign P go (Value.Part (PartValue.Instance x) ∷ st) ys e k = differ refl e
has_sign P go (Value.Module (ModuleValue.Ports x) ∷ st) ys e k = differ refl e
has_sign P go (_ ∷ st) ys e k = differ refl e
has_sign P go [] ys e k = lacks e

pub has_net_kind : (P : Values → Option Values → Type 0) (go : Goes (Option NetKind)) (st : Values) (ys : List ℕ) → sorts_of st ≡ 29 ∷ ys →
    ((x : (Option NetKind)) (rest : Values) → sorts_of rest ≡ ys → P (Value.Declare (DeclareValue.NetKind x) ∷ rest) (go x rest)) → P st (with_net_kind st go)
has_net_kind P go (Value.Declare (DeclareValue.NetKind x) ∷ st) ys e k = k x st (tails e)
has_net_kind P go (Value.Token (TokenValue.Place x) ∷ st) ys e k = differ refl e
has_net_kind P go (Value.Expr (ExprValue.Expr x) ∷ st) ys e k = differ refl e
has_net_kind P go (Value.Stmt (StmtValue.Target x) ∷ st) ys e k = differ refl e
has_net_kind P go (Value.Names (NamesValue.Names x) ∷ st) ys e k = differ refl e
has_net_kind P go (Value.Connect (ConnectValue.Ordered x) ∷ st) ys e k = differ refl e
has_net_kind P go (Value.Part (PartValue.Instance x) ∷ st) ys e k = differ refl e
has_net_kind P go (Value.Module (ModuleValue.Ports x) ∷ st) ys e k = differ refl e
has_net_kind P go (_ ∷ st) ys e k = differ refl e
has_net_kind P go [] ys e k = lacks e

pub has_parameter_range : (P : Values → Option Values → Type 0) (go : Goes (Option ParameterRange)) (st : Values) (ys : List ℕ) → sorts_of st ≡ 22 ∷ ys →
    ((x : (Option ParameterRange)) (rest : Values) → sorts_of rest ≡ ys → P (Value.Declare (DeclareValue.ParameterRange x) ∷ rest) (go x rest)) → P st (with_parameter_range st go)
has_parameter_range P go (Value.Declare (DeclareValue.ParameterRange x) ∷ st) ys e k = k x st (tails e)
has_parameter_range P go (Value.Token (TokenValue.Place x) ∷ st) ys e k = differ refl e
has_parameter_range P go (Value.Expr (ExprValue.Expr x) ∷ st) ys e k = differ refl e
has_parameter_range P go (Value.Stmt (StmtValue.Target x) ∷ st) ys e k = differ refl e
has_parameter_range P go (Value.Names (NamesValue.Names x) ∷ st) ys e k = differ refl e
has_parameter_range P go (Value.Connect (ConnectValue.Ordered x) ∷ st) ys e k = differ refl e
has_parameter_range P go (Value.Part (PartValue.Instance x) ∷ st) ys e k = differ refl e
has_parameter_range P go (Value.Module (ModuleValue.Ports x) ∷ st) ys e k = differ refl e
has_parameter_range P go (_ ∷ st) ys e k = differ refl e
has_parameter_range P go [] ys e k = lacks e

pub has_parameter : (P : Values → Option Values → Type 0) (go : Goes ParameterAssignment) (st : Values) (ys : List ℕ) → sorts_of st ≡ 23 ∷ ys →
    ((x : ParameterAssignment) (rest : Values) → sorts_of rest ≡ ys → P (Value.Declare (DeclareValue.Parameter x) ∷ rest) (go x rest)) → P st (with_parameter st go)
has_parameter P go (Value.Declare (DeclareValue.Parameter x) ∷ st) ys e k = k x st (tails e)
has_parameter P go (Value.Token (TokenValue.Place x) ∷ st) ys e k = differ refl e
has_parameter P go (Value.Expr (ExprValue.Expr x) ∷ st) ys e k = differ refl e
has_parameter P go (Value.Stmt (StmtValue.Target x) ∷ st) ys e k = differ refl e
has_parameter P go (Value.Names (NamesValue.Names x) ∷ st) ys e k = differ refl e
has_parameter P go (Value.Connect (ConnectValue.Ordered x) ∷ st) ys e k = differ refl e
has_parameter P go (Value.Part (PartValue.Instance x) ∷ st) ys e k = differ refl e
has_parameter P go (Value.Module (ModuleValue.Ports x) ∷ st) ys e k = differ refl e
has_parameter P go (_ ∷ st) ys e k = differ refl e
has_parameter P go [] ys e k = lacks e

pub has_parameters : (P : Values → Option Values → Type 0) (go : Goes (List ParameterAssignment)) (st : Values) (ys : List ℕ) → sorts_of st ≡ 24 ∷ ys →
    ((x : (List ParameterAssignment)) (rest : Values) → sorts_of rest ≡ ys → P (Value.Declare (DeclareValue.Parameters x) ∷ rest) (go x rest)) → P st (with_parameters st go)
has_parameters P go (Value.Declare (DeclareValue.Parameters x) ∷ st) ys e k = k x st (tails e)
has_parameters P go (Value.Token (TokenValue.Place x) ∷ st) ys e k = differ refl e
has_parameters P go (Value.Expr (ExprValue.Expr x) ∷ st) ys e k = differ refl e
has_parameters P go (Value.Stmt (StmtValue.Target x) ∷ st) ys e k = differ refl e
has_parameters P go (Value.Names (NamesValue.Names x) ∷ st) ys e k = differ refl e
has_parameters P go (Value.Connect (ConnectValue.Ordered x) ∷ st) ys e k = differ refl e
has_parameters P go (Value.Part (PartValue.Instance x) ∷ st) ys e k = differ refl e
has_parameters P go (Value.Module (ModuleValue.Ports x) ∷ st) ys e k = differ refl e
has_parameters P go (_ ∷ st) ys e k = differ refl e
has_parameters P go [] ys e k = lacks e

pub has_groups : (P : Values → Option Values → Type 0) (go : Goes (List ParameterDeclaration)) (st : Values) (ys : List ℕ) → sorts_of st ≡ 46 ∷ ys →
    ((x : (List ParameterDeclaration)) (rest : Values) → sorts_of rest ≡ ys → P (Value.Declare (DeclareValue.Groups x) ∷ rest) (go x rest)) → P st (with_groups st go)
has_groups P go (Value.Declare (DeclareValue.Groups x) ∷ st) ys e k = k x st (tails e)
has_groups P go (Value.Token (TokenValue.Place x) ∷ st) ys e k = differ refl e
has_groups P go (Value.Expr (ExprValue.Expr x) ∷ st) ys e k = differ refl e
has_groups P go (Value.Stmt (StmtValue.Target x) ∷ st) ys e k = differ refl e
has_groups P go (Value.Names (NamesValue.Names x) ∷ st) ys e k = differ refl e
has_groups P go (Value.Connect (ConnectValue.Ordered x) ∷ st) ys e k = differ refl e
has_groups P go (Value.Part (PartValue.Instance x) ∷ st) ys e k = differ refl e
has_groups P go (Value.Module (ModuleValue.Ports x) ∷ st) ys e k = differ refl e
has_groups P go (_ ∷ st) ys e k = differ refl e
has_groups P go [] ys e k = lacks e

pub has_names : (P : Values → Option Values → Type 0) (go : Goes (List Identifier)) (st : Values) (ys : List ℕ) → sorts_of st ≡ 25 ∷ ys →
    ((x : (List Identifier)) (rest : Values) → sorts_of rest ≡ ys → P (Value.Names (NamesValue.Names x) ∷ rest) (go x rest)) → P st (with_names st go)
has_names P go (Value.Names (NamesValue.Names x) ∷ st) ys e k = k x st (tails e)
has_names P go (Value.Token (TokenValue.Place x) ∷ st) ys e k = differ refl e
has_names P go (Value.Expr (ExprValue.Expr x) ∷ st) ys e k = differ refl e
has_names P go (Value.Stmt (StmtValue.Target x) ∷ st) ys e k = differ refl e
has_names P go (Value.Declare (DeclareValue.Sign x) ∷ st) ys e k = differ refl e
has_names P go (Value.Connect (ConnectValue.Ordered x) ∷ st) ys e k = differ refl e
has_names P go (Value.Part (PartValue.Instance x) ∷ st) ys e k = differ refl e
has_names P go (Value.Module (ModuleValue.Ports x) ∷ st) ys e k = differ refl e
has_names P go (_ ∷ st) ys e k = differ refl e
has_names P go [] ys e k = lacks e

pub has_declared_names : (P : Values → Option Values → Type 0) (go : Goes (List Identifier)) (st : Values) (ys : List ℕ) → sorts_of st ≡ 26 ∷ ys →
    ((x : (List Identifier)) (rest : Values) → sorts_of rest ≡ ys → P (Value.Names (NamesValue.DeclaredNames x) ∷ rest) (go x rest)) → P st (with_declared_names st go)
has_declared_names P go (Value.Names (NamesValue.DeclaredNames x) ∷ st) ys e k = k x st (tails e)
has_declared_names P go (Value.Token (TokenValue.Place x) ∷ st) ys e k = differ refl e
has_declared_names P go (Value.Expr (ExprValue.Expr x) ∷ st) ys e k = differ refl e
has_declared_names P go (Value.Stmt (StmtValue.Target x) ∷ st) ys e k = differ refl e
has_declared_names P go (Value.Declare (DeclareValue.Sign x) ∷ st) ys e k = differ refl e
has_declared_names P go (Value.Connect (ConnectValue.Ordered x) ∷ st) ys e k = differ refl e
has_declared_names P go (Value.Part (PartValue.Instance x) ∷ st) ys e k = differ refl e
has_declared_names P go (Value.Module (ModuleValue.Ports x) ∷ st) ys e k = differ refl e
has_declared_names P go (_ ∷ st) ys e k = differ refl e
has_declared_names P go [] ys e k = lacks e

pub has_declarator : (P : Values → Option Values → Type 0) (go : Goes Declarator) (st : Values) (ys : List ℕ) → sorts_of st ≡ 27 ∷ ys →
    ((x : Declarator) (rest : Values) → sorts_of rest ≡ ys → P (Value.Names (NamesValue.Declarator x) ∷ rest) (go x rest)) → P st (with_declarator st go)
has_declarator P go (Value.Names (NamesValue.Declarator x) ∷ st) ys e k = k x st (tails e)
has_declarator P go (Value.Token (TokenValue.Place x) ∷ st) ys e k = differ refl e
has_declarator P go (Value.Expr (ExprValue.Expr x) ∷ st) ys e k = differ refl e
has_declarator P go (Value.Stmt (StmtValue.Target x) ∷ st) ys e k = differ refl e
has_declarator P go (Value.Declare (DeclareValue.Sign x) ∷ st) ys e k = differ refl e
has_declarator P go (Value.Connect (ConnectValue.Ordered x) ∷ st) ys e k = differ refl e
has_declarator P go (Value.Part (PartValue.Instance x) ∷ st) ys e k = differ refl e
has_declarator P go (Value.Module (ModuleValue.Ports x) ∷ st) ys e k = differ refl e
has_declarator P go (_ ∷ st) ys e k = differ refl e
has_declarator P go [] ys e k = lacks e

pub has_declarators : (P : Values → Option Values → Type 0) (go : Goes (List Declarator)) (st : Values) (ys : List ℕ) → sorts_of st ≡ 28 ∷ ys →
    ((x : (List Declarator)) (rest : Values) → sorts_of rest ≡ ys → P (Value.Names (NamesValue.Declarators x) ∷ rest) (go x rest)) → P st (with_declarators st go)
has_declarators P go (Value.Names (NamesValue.Declarators x) ∷ st) ys e k = k x st (tails e)
has_declarators P go (Value.Token (TokenValue.Place x) ∷ st) ys e k = differ refl e
has_declarators P go (Value.Expr (ExprValue.Expr x) ∷ st) ys e k = differ refl e
has_declarators P go (Value.Stmt (StmtValue.Target x) ∷ st) ys e k = differ refl e
has_declarators P go (Value.Declare (DeclareValue.Sign x) ∷ st) ys e k = differ refl e
has_declarators P go (Value.Connect (ConnectValue.Ordered x) ∷ st) ys e k = differ refl e
has_declarators P go (Value.Part (PartValue.Instance x) ∷ st) ys e k = differ refl e
has_declarators P go (Value.Module (ModuleValue.Ports x) ∷ st) ys e k = differ refl e
has_declarators P go (_ ∷ st) ys e k = differ refl e
has_declarators P go [] ys e k = lacks e

pub has_register : (P : Values → Option Values → Type 0) (go : Goes Register) (st : Values) (ys : List ℕ) → sorts_of st ≡ 31 ∷ ys →
    ((x : Register) (rest : Values) → sorts_of rest ≡ ys → P (Value.Names (NamesValue.Register x) ∷ rest) (go x rest)) → P st (with_register st go)
has_register P go (Value.Names (NamesValue.Register x) ∷ st) ys e k = k x st (tails e)
has_register P go (Value.Token (TokenValue.Place x) ∷ st) ys e k = differ refl e
has_register P go (Value.Expr (ExprValue.Expr x) ∷ st) ys e k = differ refl e
has_register P go (Value.Stmt (StmtValue.Target x) ∷ st) ys e k = differ refl e
has_register P go (Value.Declare (DeclareValue.Sign x) ∷ st) ys e k = differ refl e
has_register P go (Value.Connect (ConnectValue.Ordered x) ∷ st) ys e k = differ refl e
has_register P go (Value.Part (PartValue.Instance x) ∷ st) ys e k = differ refl e
has_register P go (Value.Module (ModuleValue.Ports x) ∷ st) ys e k = differ refl e
has_register P go (_ ∷ st) ys e k = differ refl e
has_register P go [] ys e k = lacks e

pub has_registers : (P : Values → Option Values → Type 0) (go : Goes (List Register)) (st : Values) (ys : List ℕ) → sorts_of st ≡ 32 ∷ ys →
    ((x : (List Register)) (rest : Values) → sorts_of rest ≡ ys → P (Value.Names (NamesValue.Registers x) ∷ rest) (go x rest)) → P st (with_registers st go)
has_registers P go (Value.Names (NamesValue.Registers x) ∷ st) ys e k = k x st (tails e)
has_registers P go (Value.Token (TokenValue.Place x) ∷ st) ys e k = differ refl e
has_registers P go (Value.Expr (ExprValue.Expr x) ∷ st) ys e k = differ refl e
has_registers P go (Value.Stmt (StmtValue.Target x) ∷ st) ys e k = differ refl e
has_registers P go (Value.Declare (DeclareValue.Sign x) ∷ st) ys e k = differ refl e
has_registers P go (Value.Connect (ConnectValue.Ordered x) ∷ st) ys e k = differ refl e
has_registers P go (Value.Part (PartValue.Instance x) ∷ st) ys e k = differ refl e
has_registers P go (Value.Module (ModuleValue.Ports x) ∷ st) ys e k = differ refl e
has_registers P go (_ ∷ st) ys e k = differ refl e
has_registers P go [] ys e k = lacks e

pub has_ordered : (P : Values → Option Values → Type 0) (go : Goes Expr) (st : Values) (ys : List ℕ) → sorts_of st ≡ 33 ∷ ys →
    ((x : Expr) (rest : Values) → sorts_of rest ≡ ys → P (Value.Connect (ConnectValue.Ordered x) ∷ rest) (go x rest)) → P st (with_ordered st go)
has_ordered P go (Value.Connect (ConnectValue.Ordered x) ∷ st) ys e k = k x st (tails e)
has_ordered P go (Value.Token (TokenValue.Place x) ∷ st) ys e k = differ refl e
has_ordered P go (Value.Expr (ExprValue.Expr x) ∷ st) ys e k = differ refl e
has_ordered P go (Value.Stmt (StmtValue.Target x) ∷ st) ys e k = differ refl e
has_ordered P go (Value.Declare (DeclareValue.Sign x) ∷ st) ys e k = differ refl e
has_ordered P go (Value.Names (NamesValue.Names x) ∷ st) ys e k = differ refl e
has_ordered P go (Value.Part (PartValue.Instance x) ∷ st) ys e k = differ refl e
has_ordered P go (Value.Module (ModuleValue.Ports x) ∷ st) ys e k = differ refl e
has_ordered P go (_ ∷ st) ys e k = differ refl e
has_ordered P go [] ys e k = lacks e

pub has_ordered_values : (P : Values → Option Values → Type 0) (go : Goes (List Expr)) (st : Values) (ys : List ℕ) → sorts_of st ≡ 34 ∷ ys →
    ((x : (List Expr)) (rest : Values) → sorts_of rest ≡ ys → P (Value.Connect (ConnectValue.OrderedValues x) ∷ rest) (go x rest)) → P st (with_ordered_values st go)
has_ordered_values P go (Value.Connect (ConnectValue.OrderedValues x) ∷ st) ys e k = k x st (tails e)
has_ordered_values P go (Value.Token (TokenValue.Place x) ∷ st) ys e k = differ refl e
has_ordered_values P go (Value.Expr (ExprValue.Expr x) ∷ st) ys e k = differ refl e
has_ordered_values P go (Value.Stmt (StmtValue.Target x) ∷ st) ys e k = differ refl e
has_ordered_values P go (Value.Declare (DeclareValue.Sign x) ∷ st) ys e k = differ refl e
has_ordered_values P go (Value.Names (NamesValue.Names x) ∷ st) ys e k = differ refl e
has_ordered_values P go (Value.Part (PartValue.Instance x) ∷ st) ys e k = differ refl e
has_ordered_values P go (Value.Module (ModuleValue.Ports x) ∷ st) ys e k = differ refl e
has_ordered_values P go (_ ∷ st) ys e k = differ refl e
has_ordered_values P go [] ys e k = lacks e

pub has_named : (P : Values → Option Values → Type 0) (go : Goes NamedConnection) (st : Values) (ys : List ℕ) → sorts_of st ≡ 35 ∷ ys →
    ((x : NamedConnection) (rest : Values) → sorts_of rest ≡ ys → P (Value.Connect (ConnectValue.Named x) ∷ rest) (go x rest)) → P st (with_named st go)
has_named P go (Value.Connect (ConnectValue.Named x) ∷ st) ys e k = k x st (tails e)
has_named P go (Value.Token (TokenValue.Place x) ∷ st) ys e k = differ refl e
has_named P go (Value.Expr (ExprValue.Expr x) ∷ st) ys e k = differ refl e
has_named P go (Value.Stmt (StmtValue.Target x) ∷ st) ys e k = differ refl e
has_named P go (Value.Declare (DeclareValue.Sign x) ∷ st) ys e k = differ refl e
has_named P go (Value.Names (NamesValue.Names x) ∷ st) ys e k = differ refl e
has_named P go (Value.Part (PartValue.Instance x) ∷ st) ys e k = differ refl e
has_named P go (Value.Module (ModuleValue.Ports x) ∷ st) ys e k = differ refl e
has_named P go (_ ∷ st) ys e k = differ refl e
has_named P go [] ys e k = lacks e

pub has_named_values : (P : Values → Option Values → Type 0) (go : Goes (List NamedConnection)) (st : Values) (ys : List ℕ) → sorts_of st ≡ 36 ∷ ys →
    ((x : (List NamedConnection)) (rest : Values) → sorts_of rest ≡ ys → P (Value.Connect (ConnectValue.NamedValues x) ∷ rest) (go x rest)) → P st (with_named_values st go)
has_named_values P go (Value.Connect (ConnectValue.NamedValues x) ∷ st) ys e k = k x st (tails e)
has_named_values P go (Value.Token (TokenValue.Place x) ∷ st) ys e k = differ refl e
has_named_values P go (Value.Expr (ExprValue.Expr x) ∷ st) ys e k = differ refl e
has_named_values P go (Value.Stmt (StmtValue.Target x) ∷ st) ys e k = differ refl e
has_named_values P go (Value.Declare (DeclareValue.Sign x) ∷ st) ys e k = differ refl e
has_named_values P go (Value.Names (NamesValue.Names x) ∷ st) ys e k = differ refl e
has_named_values P go (Value.Part (PartValue.Instance x) ∷ st) ys e k = differ refl e
has_named_values P go (Value.Module (ModuleValue.Ports x) ∷ st) ys e k = differ refl e
has_named_values P go (_ ∷ st) ys e k = differ refl e
has_named_values P go [] ys e k = lacks e

pub has_connections : (P : Values → Option Values → Type 0) (go : Goes Connections) (st : Values) (ys : List ℕ) → sorts_of st ≡ 37 ∷ ys →
    ((x : Connections) (rest : Values) → sorts_of rest ≡ ys → P (Value.Connect (ConnectValue.Connections x) ∷ rest) (go x rest)) → P st (with_connections st go)
has_connections P go (Value.Connect (ConnectValue.Connections x) ∷ st) ys e k = k x st (tails e)
has_connections P go (Value.Token (TokenValue.Place x) ∷ st) ys e k = differ refl e
has_connections P go (Value.Expr (ExprValue.Expr x) ∷ st) ys e k = differ refl e
has_connections P go (Value.Stmt (StmtValue.Target x) ∷ st) ys e k = differ refl e
has_connections P go (Value.Declare (DeclareValue.Sign x) ∷ st) ys e k = differ refl e
has_connections P go (Value.Names (NamesValue.Names x) ∷ st) ys e k = differ refl e
has_connections P go (Value.Part (PartValue.Instance x) ∷ st) ys e k = differ refl e
has_connections P go (Value.Module (ModuleValue.Ports x) ∷ st) ys e k = differ refl e
has_connections P go (_ ∷ st) ys e k = differ refl e
has_connections P go [] ys e k = lacks e

pub has_overrides : (P : Values → Option Values → Type 0) (go : Goes (Option Connections)) (st : Values) (ys : List ℕ) → sorts_of st ≡ 38 ∷ ys →
    ((x : (Option Connections)) (rest : Values) → sorts_of rest ≡ ys → P (Value.Connect (ConnectValue.Overrides x) ∷ rest) (go x rest)) → P st (with_overrides st go)
has_overrides P go (Value.Connect (ConnectValue.Overrides x) ∷ st) ys e k = k x st (tails e)
has_overrides P go (Value.Token (TokenValue.Place x) ∷ st) ys e k = differ refl e
has_overrides P go (Value.Expr (ExprValue.Expr x) ∷ st) ys e k = differ refl e
has_overrides P go (Value.Stmt (StmtValue.Target x) ∷ st) ys e k = differ refl e
has_overrides P go (Value.Declare (DeclareValue.Sign x) ∷ st) ys e k = differ refl e
has_overrides P go (Value.Names (NamesValue.Names x) ∷ st) ys e k = differ refl e
has_overrides P go (Value.Part (PartValue.Instance x) ∷ st) ys e k = differ refl e
has_overrides P go (Value.Module (ModuleValue.Ports x) ∷ st) ys e k = differ refl e
has_overrides P go (_ ∷ st) ys e k = differ refl e
has_overrides P go [] ys e k = lacks e

pub has_instance : (P : Values → Option Values → Type 0) (go : Goes Instance) (st : Values) (ys : List ℕ) → sorts_of st ≡ 39 ∷ ys →
    ((x : Instance) (rest : Values) → sorts_of rest ≡ ys → P (Value.Part (PartValue.Instance x) ∷ rest) (go x rest)) → P st (with_instance st go)
has_instance P go (Value.Part (PartValue.Instance x) ∷ st) ys e k = k x st (tails e)
has_instance P go (Value.Token (TokenValue.Place x) ∷ st) ys e k = differ refl e
has_instance P go (Value.Expr (ExprValue.Expr x) ∷ st) ys e k = differ refl e
has_instance P go (Value.Stmt (StmtValue.Target x) ∷ st) ys e k = differ refl e
has_instance P go (Value.Declare (DeclareValue.Sign x) ∷ st) ys e k = differ refl e
has_instance P go (Value.Names (NamesValue.Names x) ∷ st) ys e k = differ refl e
has_instance P go (Value.Connect (ConnectValue.Ordered x) ∷ st) ys e k = differ refl e
has_instance P go (Value.Module (ModuleValue.Ports x) ∷ st) ys e k = differ refl e
has_instance P go (_ ∷ st) ys e k = differ refl e
has_instance P go [] ys e k = lacks e

pub has_instances : (P : Values → Option Values → Type 0) (go : Goes (List Instance)) (st : Values) (ys : List ℕ) → sorts_of st ≡ 40 ∷ ys →
    ((x : (List Instance)) (rest : Values) → sorts_of rest ≡ ys → P (Value.Part (PartValue.Instances x) ∷ rest) (go x rest)) → P st (with_instances st go)
has_instances P go (Value.Part (PartValue.Instances x) ∷ st) ys e k = k x st (tails e)
has_instances P go (Value.Token (TokenValue.Place x) ∷ st) ys e k = differ refl e
has_instances P go (Value.Expr (ExprValue.Expr x) ∷ st) ys e k = differ refl e
has_instances P go (Value.Stmt (StmtValue.Target x) ∷ st) ys e k = differ refl e
has_instances P go (Value.Declare (DeclareValue.Sign x) ∷ st) ys e k = differ refl e
has_instances P go (Value.Names (NamesValue.Names x) ∷ st) ys e k = differ refl e
has_instances P go (Value.Connect (ConnectValue.Ordered x) ∷ st) ys e k = differ refl e
has_instances P go (Value.Module (ModuleValue.Ports x) ∷ st) ys e k = differ refl e
has_instances P go (_ ∷ st) ys e k = differ refl e
has_instances P go [] ys e k = lacks e

pub has_net_assignment : (P : Values → Option Values → Type 0) (go : Goes NetAssignment) (st : Values) (ys : List ℕ) → sorts_of st ≡ 41 ∷ ys →
    ((x : NetAssignment) (rest : Values) → sorts_of rest ≡ ys → P (Value.Part (PartValue.NetAssignment x) ∷ rest) (go x rest)) → P st (with_net_assignment st go)
has_net_assignment P go (Value.Part (PartValue.NetAssignment x) ∷ st) ys e k = k x st (tails e)
has_net_assignment P go (Value.Token (TokenValue.Place x) ∷ st) ys e k = differ refl e
has_net_assignment P go (Value.Expr (ExprValue.Expr x) ∷ st) ys e k = differ refl e
has_net_assignment P go (Value.Stmt (StmtValue.Target x) ∷ st) ys e k = differ refl e
has_net_assignment P go (Value.Declare (DeclareValue.Sign x) ∷ st) ys e k = differ refl e
has_net_assignment P go (Value.Names (NamesValue.Names x) ∷ st) ys e k = differ refl e
has_net_assignment P go (Value.Connect (ConnectValue.Ordered x) ∷ st) ys e k = differ refl e
has_net_assignment P go (Value.Module (ModuleValue.Ports x) ∷ st) ys e k = differ refl e
has_net_assignment P go (_ ∷ st) ys e k = differ refl e
has_net_assignment P go [] ys e k = lacks e

pub has_net_assignments : (P : Values → Option Values → Type 0) (go : Goes (List NetAssignment)) (st : Values) (ys : List ℕ) → sorts_of st ≡ 42 ∷ ys →
    ((x : (List NetAssignment)) (rest : Values) → sorts_of rest ≡ ys → P (Value.Part (PartValue.NetAssignments x) ∷ rest) (go x rest)) → P st (with_net_assignments st go)
has_net_assignments P go (Value.Part (PartValue.NetAssignments x) ∷ st) ys e k = k x st (tails e)
has_net_assignments P go (Value.Token (TokenValue.Place x) ∷ st) ys e k = differ refl e
has_net_assignments P go (Value.Expr (ExprValue.Expr x) ∷ st) ys e k = differ refl e
has_net_assignments P go (Value.Stmt (StmtValue.Target x) ∷ st) ys e k = differ refl e
has_net_assignments P go (Value.Declare (DeclareValue.Sign x) ∷ st) ys e k = differ refl e
has_net_assignments P go (Value.Names (NamesValue.Names x) ∷ st) ys e k = differ refl e
has_net_assignments P go (Value.Connect (ConnectValue.Ordered x) ∷ st) ys e k = differ refl e
has_net_assignments P go (Value.Module (ModuleValue.Ports x) ∷ st) ys e k = differ refl e
has_net_assignments P go (_ ∷ st) ys e k = differ refl e
has_net_assignments P go [] ys e k = lacks e

pub has_event : (P : Values → Option Values → Type 0) (go : Goes Event) (st : Values) (ys : List ℕ) → sorts_of st ≡ 43 ∷ ys →
    ((x : Event) (rest : Values) → sorts_of rest ≡ ys → P (Value.Part (PartValue.Event x) ∷ rest) (go x rest)) → P st (with_event st go)
has_event P go (Value.Part (PartValue.Event x) ∷ st) ys e k = k x st (tails e)
has_event P go (Value.Token (TokenValue.Place x) ∷ st) ys e k = differ refl e
has_event P go (Value.Expr (ExprValue.Expr x) ∷ st) ys e k = differ refl e
has_event P go (Value.Stmt (StmtValue.Target x) ∷ st) ys e k = differ refl e
has_event P go (Value.Declare (DeclareValue.Sign x) ∷ st) ys e k = differ refl e
has_event P go (Value.Names (NamesValue.Names x) ∷ st) ys e k = differ refl e
has_event P go (Value.Connect (ConnectValue.Ordered x) ∷ st) ys e k = differ refl e
has_event P go (Value.Module (ModuleValue.Ports x) ∷ st) ys e k = differ refl e
has_event P go (_ ∷ st) ys e k = differ refl e
has_event P go [] ys e k = lacks e

pub has_ports : (P : Values → Option Values → Type 0) (go : Goes (List Port)) (st : Values) (ys : List ℕ) → sorts_of st ≡ 47 ∷ ys →
    ((x : (List Port)) (rest : Values) → sorts_of rest ≡ ys → P (Value.Module (ModuleValue.Ports x) ∷ rest) (go x rest)) → P st (with_ports st go)
has_ports P go (Value.Module (ModuleValue.Ports x) ∷ st) ys e k = k x st (tails e)
has_ports P go (Value.Token (TokenValue.Place x) ∷ st) ys e k = differ refl e
has_ports P go (Value.Expr (ExprValue.Expr x) ∷ st) ys e k = differ refl e
has_ports P go (Value.Stmt (StmtValue.Target x) ∷ st) ys e k = differ refl e
has_ports P go (Value.Declare (DeclareValue.Sign x) ∷ st) ys e k = differ refl e
has_ports P go (Value.Names (NamesValue.Names x) ∷ st) ys e k = differ refl e
has_ports P go (Value.Connect (ConnectValue.Ordered x) ∷ st) ys e k = differ refl e
has_ports P go (Value.Part (PartValue.Instance x) ∷ st) ys e k = differ refl e
has_ports P go (_ ∷ st) ys e k = differ refl e
has_ports P go [] ys e k = lacks e

pub has_header : (P : Values → Option Values → Type 0) (go : Goes Header) (st : Values) (ys : List ℕ) → sorts_of st ≡ 48 ∷ ys →
    ((x : Header) (rest : Values) → sorts_of rest ≡ ys → P (Value.Module (ModuleValue.Header x) ∷ rest) (go x rest)) → P st (with_header st go)
has_header P go (Value.Module (ModuleValue.Header x) ∷ st) ys e k = k x st (tails e)
has_header P go (Value.Token (TokenValue.Place x) ∷ st) ys e k = differ refl e
has_header P go (Value.Expr (ExprValue.Expr x) ∷ st) ys e k = differ refl e
has_header P go (Value.Stmt (StmtValue.Target x) ∷ st) ys e k = differ refl e
has_header P go (Value.Declare (DeclareValue.Sign x) ∷ st) ys e k = differ refl e
has_header P go (Value.Names (NamesValue.Names x) ∷ st) ys e k = differ refl e
has_header P go (Value.Connect (ConnectValue.Ordered x) ∷ st) ys e k = differ refl e
has_header P go (Value.Part (PartValue.Instance x) ∷ st) ys e k = differ refl e
has_header P go (_ ∷ st) ys e k = differ refl e
has_header P go [] ys e k = lacks e

pub has_item : (P : Values → Option Values → Type 0) (go : Goes Item) (st : Values) (ys : List ℕ) → sorts_of st ≡ 44 ∷ ys →
    ((x : Item) (rest : Values) → sorts_of rest ≡ ys → P (Value.Module (ModuleValue.Item x) ∷ rest) (go x rest)) → P st (with_item st go)
has_item P go (Value.Module (ModuleValue.Item x) ∷ st) ys e k = k x st (tails e)
has_item P go (Value.Token (TokenValue.Place x) ∷ st) ys e k = differ refl e
has_item P go (Value.Expr (ExprValue.Expr x) ∷ st) ys e k = differ refl e
has_item P go (Value.Stmt (StmtValue.Target x) ∷ st) ys e k = differ refl e
has_item P go (Value.Declare (DeclareValue.Sign x) ∷ st) ys e k = differ refl e
has_item P go (Value.Names (NamesValue.Names x) ∷ st) ys e k = differ refl e
has_item P go (Value.Connect (ConnectValue.Ordered x) ∷ st) ys e k = differ refl e
has_item P go (Value.Part (PartValue.Instance x) ∷ st) ys e k = differ refl e
has_item P go (_ ∷ st) ys e k = differ refl e
has_item P go [] ys e k = lacks e

pub has_items : (P : Values → Option Values → Type 0) (go : Goes (List Item)) (st : Values) (ys : List ℕ) → sorts_of st ≡ 45 ∷ ys →
    ((x : (List Item)) (rest : Values) → sorts_of rest ≡ ys → P (Value.Module (ModuleValue.Items x) ∷ rest) (go x rest)) → P st (with_items st go)
has_items P go (Value.Module (ModuleValue.Items x) ∷ st) ys e k = k x st (tails e)
has_items P go (Value.Token (TokenValue.Place x) ∷ st) ys e k = differ refl e
has_items P go (Value.Expr (ExprValue.Expr x) ∷ st) ys e k = differ refl e
has_items P go (Value.Stmt (StmtValue.Target x) ∷ st) ys e k = differ refl e
has_items P go (Value.Declare (DeclareValue.Sign x) ∷ st) ys e k = differ refl e
has_items P go (Value.Names (NamesValue.Names x) ∷ st) ys e k = differ refl e
has_items P go (Value.Connect (ConnectValue.Ordered x) ∷ st) ys e k = differ refl e
has_items P go (Value.Part (PartValue.Instance x) ∷ st) ys e k = differ refl e
has_items P go (_ ∷ st) ys e k = differ refl e
has_items P go [] ys e k = lacks e

pub has_module : (P : Values → Option Values → Type 0) (go : Goes Module) (st : Values) (ys : List ℕ) → sorts_of st ≡ 49 ∷ ys →
    ((x : Module) (rest : Values) → sorts_of rest ≡ ys → P (Value.Module (ModuleValue.Module x) ∷ rest) (go x rest)) → P st (with_module st go)
has_module P go (Value.Module (ModuleValue.Module x) ∷ st) ys e k = k x st (tails e)
has_module P go (Value.Token (TokenValue.Place x) ∷ st) ys e k = differ refl e
has_module P go (Value.Expr (ExprValue.Expr x) ∷ st) ys e k = differ refl e
has_module P go (Value.Stmt (StmtValue.Target x) ∷ st) ys e k = differ refl e
has_module P go (Value.Declare (DeclareValue.Sign x) ∷ st) ys e k = differ refl e
has_module P go (Value.Names (NamesValue.Names x) ∷ st) ys e k = differ refl e
has_module P go (Value.Connect (ConnectValue.Ordered x) ∷ st) ys e k = differ refl e
has_module P go (Value.Part (PartValue.Instance x) ∷ st) ys e k = differ refl e
has_module P go (_ ∷ st) ys e k = differ refl e
has_module P go [] ys e k = lacks e

pub has_modules : (P : Values → Option Values → Type 0) (go : Goes (List Module)) (st : Values) (ys : List ℕ) → sorts_of st ≡ 50 ∷ ys →
    ((x : (List Module)) (rest : Values) → sorts_of rest ≡ ys → P (Value.Module (ModuleValue.Modules x) ∷ rest) (go x rest)) → P st (with_modules st go)
has_modules P go (Value.Module (ModuleValue.Modules x) ∷ st) ys e k = k x st (tails e)
has_modules P go (Value.Token (TokenValue.Place x) ∷ st) ys e k = differ refl e
has_modules P go (Value.Expr (ExprValue.Expr x) ∷ st) ys e k = differ refl e
has_modules P go (Value.Stmt (StmtValue.Target x) ∷ st) ys e k = differ refl e
has_modules P go (Value.Declare (DeclareValue.Sign x) ∷ st) ys e k = differ refl e
has_modules P go (Value.Names (NamesValue.Names x) ∷ st) ys e k = differ refl e
has_modules P go (Value.Connect (ConnectValue.Ordered x) ∷ st) ys e k = differ refl e
has_modules P go (Value.Part (PartValue.Instance x) ∷ st) ys e k = differ refl e
has_modules P go (_ ∷ st) ys e k = differ refl e
has_modules P go [] ys e k = lacks e

-- a stack with the sort of a whole text alone has its tree alone
pub one_tree : (st : Values) → sorts_of st ≡ 51 ∷ [] → BuildsTree (Some st)
one_tree (Value.Module (ModuleValue.Source x) ∷ st) e = record { tree = x; is = ap (λ st. Some (Value.Module (ModuleValue.Source x) ∷ st)) (empty st (tails e)) }
one_tree (Value.Token (TokenValue.Place x) ∷ st) e = differ refl e
one_tree (Value.Expr (ExprValue.Expr x) ∷ st) e = differ refl e
one_tree (Value.Stmt (StmtValue.Target x) ∷ st) e = differ refl e
one_tree (Value.Declare (DeclareValue.Sign x) ∷ st) e = differ refl e
one_tree (Value.Names (NamesValue.Names x) ∷ st) e = differ refl e
one_tree (Value.Connect (ConnectValue.Ordered x) ∷ st) e = differ refl e
one_tree (Value.Part (PartValue.Instance x) ∷ st) e = differ refl e
one_tree (_ ∷ st) e = differ refl e
one_tree [] e = lacks e
