-- The first token of each part of a tree, as its place.
use Rattle.std.specs.Prelude.{List, [], ◌∷◌}
use Rattle.src_text.specs.declared.refusal.Place.{Place}
use Rattle.v_tree.specs.declared.expr.Expr.{Expr}
use Rattle.v_tree.specs.declared.expr.Expr as expr
use Rattle.v_tree.specs.declared.expr.Literal.{Literal}
use Rattle.v_tree.specs.declared.expr.Literal.TheVariants as literal
use Rattle.v_tree.specs.declared.item.Item.{Item}
use Rattle.v_tree.specs.declared.item.Item.TheVariants as item
use Rattle.v_tree.specs.declared.stmt.CaseItem.{CaseItem}
use Rattle.v_tree.specs.declared.stmt.Stmt.{Stmt}
use Rattle.v_tree.specs.declared.stmt.Stmt as stmt
use Rattle.v_tree.specs.declared.stmt.CaseItem as case_item
use Rattle.v_tree.specs.declared.stmt.Target.{Target}
use Rattle.v_tree.specs.declared.stmt.Target as target

-- the first token of a literal; a size comes before its base
abbrev pub literal_start : Literal → Place
literal_start (literal.Decimal number) = number.place
literal_start (literal.Based number) = number.place
literal_start (literal.Sized size number) = size.place

-- the first token of an expression, which is that of its leftmost operand
abbrev pub expr_start : Expr → Place
expr_start (expr.Literal l) = literal_start l
expr_start (expr.Name x) = x.place
expr_start (expr.Select' x _ selection) = x.place
expr_start (expr.Unary' operator _ operand) = operator.place
expr_start (expr.Binary' _ (expr.more_of-Expr left _) operator _ right) = expr_start left
expr_start (expr.Conditional' _ (expr.more_of-Expr condition _) _ one _ other) = expr_start condition
expr_start (expr.Parentheses' place _ inner) = place
expr_start (expr.Concatenation' place _ parts) = place
expr_start (expr.Replication' place _ count _ parts) = place
expr_start (expr.Signed' place _ operand) = place
expr_start (expr.Unsigned' place _ operand) = place

-- the first token of a target of assignments
abbrev pub target_start : Target → Place
target_start (target.Name x) = x.place
target_start (target.Select x selection) = x.place
target_start (target.Concatenation' place _ parts) = place

-- the first token of a statement
abbrev pub stmt_start : Stmt → Place
stmt_start (stmt.Empty place) = place
stmt_start (stmt.Block' place label _ body) = place
stmt_start (stmt.If' place condition _ body) = place
stmt_start (stmt.IfElse' place condition _ body _ other) = place
stmt_start (stmt.Case' place kind value _ items) = place
stmt_start (stmt.For' place head _ body) = place
stmt_start (stmt.Assignment a) = target_start a.target

-- the first expression's, or that of what follows where there is none
abbrev pub values_start : List Expr → Place → Place
values_start [] after = after
values_start (value ∷ values) after = expr_start value

-- the first token of a case item
abbrev pub case_item_start : CaseItem → Place
case_item_start (case_item.Values' values _ (stmt.more_of-Stmt body _)) = values_start values (stmt_start body)
case_item_start (case_item.Default' place _ body) = place

-- the first token of an item
abbrev pub item_start : Item → Place
item_start (item.Port d) = d.direction.place
item_start (item.Net d) = d.place
item_start (item.Reg d) = d.place
item_start (item.Integer d) = d.place
item_start (item.Parameter d) = d.place
item_start (item.LocalParameter d) = d.place
item_start (item.Assign d) = d.place
item_start (item.Always d) = d.place
item_start (item.Initial place body) = place
item_start (item.Instances d) = d.module.place
