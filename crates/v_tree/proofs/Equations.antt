-- What the starts and the trees of a part are, at the values that code makes.
use Rattle.std.proofs.Common.{◌≡◌, List, [], ◌∷◌, Option, refl, ap}
use Rattle.src_text.specs.Trees.{also, one, all_trees}
use Rattle.src_text.specs.declared.refusal.Place.{Place}
use Rattle.v_tree.specs.declared.expr.BinaryOperator.{BinaryOperator}
use Rattle.v_tree.specs.declared.expr.Expr.{Expr}
use Rattle.v_tree.specs.declared.expr.Expr as in_expr
use Rattle.v_tree.specs.declared.expr.Expr.TheVariants as expr
use Rattle.v_tree.specs.declared.expr.Selection.{Selection}
use Rattle.v_tree.specs.declared.expr.Selection.TheVariants as selection
use Rattle.v_tree.specs.declared.expr.UnaryOperator.{UnaryOperator}
use Rattle.v_tree.specs.declared.name.Identifier.{Identifier}
use Rattle.v_tree.specs.declared.stmt.CaseItem.{CaseItem}
use Rattle.v_tree.specs.declared.stmt.CaseItem.TheVariants as case_item
use Rattle.v_tree.specs.declared.stmt.CaseKind.{CaseKind}
use Rattle.v_tree.specs.declared.stmt.ForHead.{ForHead}
use Rattle.v_tree.specs.declared.stmt.Stmt.{Stmt}
use Rattle.v_tree.specs.declared.stmt.CaseItem as in_case
use Rattle.v_tree.specs.declared.stmt.Stmt.TheVariants as stmt
use Rattle.v_tree.specs.declared.stmt.Target.{Target}
use Rattle.v_tree.specs.declared.stmt.Target as in_target
use Rattle.v_tree.specs.declared.stmt.Target.TheVariants as target
use Rattle.v_tree.specs.Starts.{expr_start, stmt_start, values_start, case_item_start}
use Rattle.v_tree.specs.Nodes.{expr_trees, selection_trees, part_trees, target_trees, target_part_trees, head_trees, stmt_trees, body_trees, case_item_tree, case_item_trees}

pub part_trees-hidden : (xs : List Expr) → part_trees (in_expr.TheBlock.hidden-the_row-Expr-2 xs) ≡ all_trees expr_trees xs
unfolding in_expr.TheBlock.hidden-the_row-Expr-2 denote.Hole.Carrier.hidden
part_trees-hidden [] = refl
part_trees-hidden (x ∷ xs) = ap (λ rest. also (expr_trees x) rest) (part_trees-hidden xs)

pub target_part_trees-hidden : (xs : List Target) → target_part_trees (in_target.TheBlock.hidden-the_row-Target-0 xs) ≡ all_trees target_trees xs
unfolding in_target.TheBlock.hidden-the_row-Target-0 denote.Hole.Carrier.hidden
target_part_trees-hidden [] = refl
target_part_trees-hidden (x ∷ xs) = ap (λ rest. also (target_trees x) rest) (target_part_trees-hidden xs)

pub body_trees-hidden : (xs : List Stmt) → body_trees (in_case.TheBlock.hidden-the_row-Stmt-1 xs) ≡ all_trees stmt_trees xs
unfolding in_case.TheBlock.hidden-the_row-Stmt-1 denote.Hole.Carrier.hidden
body_trees-hidden [] = refl
body_trees-hidden (x ∷ xs) = ap (λ rest. also (stmt_trees x) rest) (body_trees-hidden xs)

pub case_item_trees-hidden : (xs : List CaseItem) → case_item_trees (in_case.TheBlock.hidden-the_row-CaseItem-2 xs) ≡ all_trees case_item_tree xs
unfolding in_case.TheBlock.hidden-the_row-CaseItem-2 denote.Hole.Carrier.hidden
case_item_trees-hidden [] = refl
case_item_trees-hidden (x ∷ xs) = ap (λ rest. also (case_item_tree x) rest) (case_item_trees-hidden xs)

pub binary_start : (a b : Expr) (o : BinaryOperator) → expr_start (expr.Binary a o b) ≡ expr_start a
unfolding in_expr.TheBlock.hidden-the_row-Expr-1 denote.Hole.Carrier.hidden
binary_start a b o = refl

pub conditional_start : (c a b : Expr) → expr_start (expr.Conditional c a b) ≡ expr_start c
unfolding in_expr.TheBlock.hidden-the_row-Expr-1 denote.Hole.Carrier.hidden
conditional_start c a b = refl

pub case_item-start : (es : List Expr) (s : Stmt) → case_item_start (case_item.Values es s) ≡ values_start es (stmt_start s)
unfolding in_case.TheBlock.hidden-the_row-Stmt-0 denote.Hole.Carrier.hidden
case_item-start es s = refl

pub select_trees : (x : Identifier) (s : Selection) → expr_trees (expr.Select x s) ≡ one x.place (selection_trees s)
unfolding in_expr.TheBlock.hidden-the_row-Selection-0 denote.Hole.Carrier.hidden
select_trees x s = refl

pub unary_trees : (o : UnaryOperator) (a : Expr) → expr_trees (expr.Unary o a) ≡ one o.place (expr_trees a)
unfolding in_expr.TheBlock.hidden-the_row-Expr-1 denote.Hole.Carrier.hidden
unary_trees o a = refl

pub binary_trees : (a b : Expr) (o : BinaryOperator) → expr_trees (expr.Binary a o b) ≡ one (expr_start a) (also (expr_trees a) (expr_trees b))
unfolding in_expr.TheBlock.hidden-the_row-Expr-1 denote.Hole.Carrier.hidden
binary_trees a b o = refl

pub conditional_trees : (c a b : Expr) → expr_trees (expr.Conditional c a b) ≡ one (expr_start c) (also (expr_trees c) (also (expr_trees a) (expr_trees b)))
unfolding in_expr.TheBlock.hidden-the_row-Expr-1 denote.Hole.Carrier.hidden
conditional_trees c a b = refl

pub parentheses_trees : (p : Place) (a : Expr) → expr_trees (expr.Parentheses p a) ≡ one p (expr_trees a)
unfolding in_expr.TheBlock.hidden-the_row-Expr-1 denote.Hole.Carrier.hidden
parentheses_trees p a = refl

pub signed_trees : (p : Place) (a : Expr) → expr_trees (expr.Signed p a) ≡ one p (expr_trees a)
unfolding in_expr.TheBlock.hidden-the_row-Expr-1 denote.Hole.Carrier.hidden
signed_trees p a = refl

pub unsigned_trees : (p : Place) (a : Expr) → expr_trees (expr.Unsigned p a) ≡ one p (expr_trees a)
unfolding in_expr.TheBlock.hidden-the_row-Expr-1 denote.Hole.Carrier.hidden
unsigned_trees p a = refl

pub concatenation_trees : (p : Place) (es : List Expr) → expr_trees (expr.Concatenation p es) ≡ one p (all_trees expr_trees es)
concatenation_trees p es = ap (λ inside. one p inside) (part_trees-hidden es)

pub replication_trees : (p : Place) (c : Expr) (es : List Expr) → expr_trees (expr.Replication p c es) ≡ one p (also (expr_trees c) (all_trees expr_trees es))
unfolding in_expr.TheBlock.hidden-the_row-Expr-1 denote.Hole.Carrier.hidden
replication_trees p c es = ap (λ inside. one p (also (expr_trees c) inside)) (part_trees-hidden es)

pub index_trees : (a : Expr) → selection_trees (selection.Index a) ≡ expr_trees a
unfolding in_expr.TheBlock.hidden-the_row-Expr-1 denote.Hole.Carrier.hidden
index_trees a = refl

pub range_trees : (a b : Expr) → selection_trees (selection.Range a b) ≡ also (expr_trees a) (expr_trees b)
unfolding in_expr.TheBlock.hidden-the_row-Expr-1 denote.Hole.Carrier.hidden
range_trees a b = refl

pub up_trees : (a b : Expr) → selection_trees (selection.Up a b) ≡ also (expr_trees a) (expr_trees b)
unfolding in_expr.TheBlock.hidden-the_row-Expr-1 denote.Hole.Carrier.hidden
up_trees a b = refl

pub down_trees : (a b : Expr) → selection_trees (selection.Down a b) ≡ also (expr_trees a) (expr_trees b)
unfolding in_expr.TheBlock.hidden-the_row-Expr-1 denote.Hole.Carrier.hidden
down_trees a b = refl

pub target_join_trees : (p : Place) (ts : List Target) → target_trees (target.Concatenation p ts) ≡ one p (all_trees target_trees ts)
target_join_trees p ts = ap (λ inside. one p inside) (target_part_trees-hidden ts)

pub block_trees : (p : Place) (label : Option Identifier) (ss : List Stmt) → stmt_trees (stmt.Block p label ss) ≡ one p (all_trees stmt_trees ss)
block_trees p label ss = ap (λ inside. one p inside) (body_trees-hidden ss)

pub if_trees : (p : Place) (c : Expr) (s : Stmt) → stmt_trees (stmt.If p c s) ≡ one p (also (expr_trees c) (stmt_trees s))
unfolding in_case.TheBlock.hidden-the_row-Stmt-0 denote.Hole.Carrier.hidden
if_trees p c s = refl

pub if_else_trees : (p : Place) (c : Expr) (s other : Stmt) → stmt_trees (stmt.IfElse p c s other) ≡ one p (also (expr_trees c) (also (stmt_trees s) (stmt_trees other)))
unfolding in_case.TheBlock.hidden-the_row-Stmt-0 denote.Hole.Carrier.hidden
if_else_trees p c s other = refl

pub case_trees : (p : Place) (k : CaseKind) (e : Expr) (cs : List CaseItem) → stmt_trees (stmt.Case p k e cs) ≡ one p (also (expr_trees e) (all_trees case_item_tree cs))
case_trees p k e cs = ap (λ inside. one p (also (expr_trees e) inside)) (case_item_trees-hidden cs)

pub for_trees : (p : Place) (h : ForHead) (s : Stmt) → stmt_trees (stmt.For p h s) ≡ one p (also (head_trees h) (stmt_trees s))
unfolding in_case.TheBlock.hidden-the_row-Stmt-0 denote.Hole.Carrier.hidden
for_trees p h s = refl

pub values_tree : (es : List Expr) (s : Stmt) → case_item_tree (case_item.Values es s) ≡ one (values_start es (stmt_start s)) (also (all_trees expr_trees es) (stmt_trees s))
unfolding in_case.TheBlock.hidden-the_row-Stmt-0 denote.Hole.Carrier.hidden
values_tree es s = refl

pub default_tree : (p : Place) (s : Stmt) → case_item_tree (case_item.Default p s) ≡ one p (stmt_trees s)
unfolding in_case.TheBlock.hidden-the_row-Stmt-0 denote.Hole.Carrier.hidden
default_tree p s = refl
