-- The sort of each value, by the numbers that the grammar's actions have.
use Rattle.std.specs.Prelude.{ℕ, List, map}
use Rattle.v_stack.specs.declared.values.Value.{Value}
use Rattle.v_stack.specs.declared.values.TokenValue.TheVariants as TokenValue
use Rattle.v_stack.specs.declared.values.ExprValue.TheVariants as ExprValue
use Rattle.v_stack.specs.declared.values.StmtValue.TheVariants as StmtValue
use Rattle.v_stack.specs.declared.values.DeclareValue.TheVariants as DeclareValue
use Rattle.v_stack.specs.declared.values.NamesValue.TheVariants as NamesValue
use Rattle.v_stack.specs.declared.values.ConnectValue.TheVariants as ConnectValue
use Rattle.v_stack.specs.declared.values.PartValue.TheVariants as PartValue
use Rattle.v_stack.specs.declared.values.ModuleValue.TheVariants as ModuleValue
use Rattle.v_stack.specs.Values.{Values}

-- the sort of a value: a number for each constructor
abbrev pub sort_of : Value → ℕ
sort_of (Value.Token (TokenValue.Place x)) = 1
sort_of (Value.Token (TokenValue.Name x)) = 2
sort_of (Value.Token (TokenValue.Declared x)) = 3
sort_of (Value.Token (TokenValue.UnaryOperator x)) = 7
sort_of (Value.Token (TokenValue.BinaryOperator x)) = 8
sort_of (Value.Token (TokenValue.Decimal x)) = 4
sort_of (Value.Token (TokenValue.Based x)) = 5
sort_of (Value.Token (TokenValue.Direction x)) = 6
sort_of (Value.Expr (ExprValue.Expr x)) = 9
sort_of (Value.Expr (ExprValue.Exprs x)) = 0
sort_of (Value.Expr (ExprValue.ExprOption x)) = 11
sort_of (Value.Expr (ExprValue.Selection x)) = 10
sort_of (Value.Expr (ExprValue.Range x)) = 20
sort_of (Value.Expr (ExprValue.RangeOption x)) = 21
sort_of (Value.Stmt (StmtValue.Target x)) = 12
sort_of (Value.Stmt (StmtValue.Targets x)) = 13
sort_of (Value.Stmt (StmtValue.AssignmentKind x)) = 14
sort_of (Value.Stmt (StmtValue.Label x)) = 16
sort_of (Value.Stmt (StmtValue.Stmt x)) = 15
sort_of (Value.Stmt (StmtValue.Stmts x)) = 17
sort_of (Value.Stmt (StmtValue.CaseItem x)) = 19
sort_of (Value.Stmt (StmtValue.CaseItems x)) = 18
sort_of (Value.Declare (DeclareValue.Sign x)) = 30
sort_of (Value.Declare (DeclareValue.NetKind x)) = 29
sort_of (Value.Declare (DeclareValue.ParameterRange x)) = 22
sort_of (Value.Declare (DeclareValue.Parameter x)) = 23
sort_of (Value.Declare (DeclareValue.Parameters x)) = 24
sort_of (Value.Declare (DeclareValue.Groups x)) = 46
sort_of (Value.Names (NamesValue.Names x)) = 25
sort_of (Value.Names (NamesValue.DeclaredNames x)) = 26
sort_of (Value.Names (NamesValue.Declarator x)) = 27
sort_of (Value.Names (NamesValue.Declarators x)) = 28
sort_of (Value.Names (NamesValue.Register x)) = 31
sort_of (Value.Names (NamesValue.Registers x)) = 32
sort_of (Value.Connect (ConnectValue.Ordered x)) = 33
sort_of (Value.Connect (ConnectValue.OrderedValues x)) = 34
sort_of (Value.Connect (ConnectValue.Named x)) = 35
sort_of (Value.Connect (ConnectValue.NamedValues x)) = 36
sort_of (Value.Connect (ConnectValue.Connections x)) = 37
sort_of (Value.Connect (ConnectValue.Overrides x)) = 38
sort_of (Value.Part (PartValue.Instance x)) = 39
sort_of (Value.Part (PartValue.Instances x)) = 40
sort_of (Value.Part (PartValue.NetAssignment x)) = 41
sort_of (Value.Part (PartValue.NetAssignments x)) = 42
sort_of (Value.Part (PartValue.Event x)) = 43
sort_of (Value.Module (ModuleValue.Ports x)) = 47
sort_of (Value.Module (ModuleValue.Header x)) = 48
sort_of (Value.Module (ModuleValue.Item x)) = 44
sort_of (Value.Module (ModuleValue.Items x)) = 45
sort_of (Value.Module (ModuleValue.Module x)) = 49
sort_of (Value.Module (ModuleValue.Modules x)) = 50
sort_of (Value.Module (ModuleValue.Source x)) = 51

-- the sorts of the values on a stack, from the top down
abbrev pub sorts_of : Values → List ℕ
sorts_of st = map sort_of st
