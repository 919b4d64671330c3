-- What the starts and the trees of a part are, at the values that code makes.
use Rattle.std.proofs.Common.{◌≡◌, List, [], ◌∷◌, Option, refl, ap, ◌∙◌}
use Rattle.src_text.specs.declared.refusal.Place.{Place}
use Rattle.src_text.specs.Trees.{Trees, also, one, all_trees, option_trees}
use Rattle.c_tree.specs.declared.declarations.TypeName.{TypeName}
use Rattle.c_tree.specs.declared.expressions.BinaryMark.{BinaryMark}
use Rattle.c_tree.specs.declared.expressions.Expression.{Expression}
use Rattle.c_tree.specs.declared.expressions.Expression.TheVariants as expression
use Rattle.c_tree.specs.declared.expressions.Object.{Object}
use Rattle.c_tree.specs.declared.expressions.Expression as in_expression
use Rattle.c_tree.specs.declared.expressions.Path.TheVariants as path
use Rattle.c_tree.specs.declared.expressions.UnaryMark.{UnaryMark}
use Rattle.c_tree.specs.declared.statements.BlockItem.{BlockItem}
use Rattle.c_tree.specs.declared.statements.ForFirst.{ForFirst}
use Rattle.c_tree.specs.declared.statements.Group.{Group}
use Rattle.c_tree.specs.declared.statements.BlockItem as in_item
use Rattle.c_tree.specs.declared.statements.Simple.{Simple}
use Rattle.c_tree.specs.declared.statements.Statement.{Statement}
use Rattle.c_tree.specs.declared.statements.Statement.TheVariants as statement
use Rattle.c_tree.specs.Starts.{path_start, expression_start, statement_start}
use Rattle.c_tree.specs.Nodes.{path_trees, expression_trees, label_trees, first_trees, simple_trees, statement_trees, item_trees, item_row, group_row, statement_row}

-- a group of a switch
abbrev pub group_trees : Group → Trees
group_trees g = one g.place (also (all_trees label_trees g.labels) (all_trees statement_trees g.body))

pub statement_row-hidden : (xs : List Statement) → statement_row (in_item.TheBlock.hidden-the_row-Statement-2 xs) ≡ all_trees statement_trees xs
unfolding in_item.TheBlock.hidden-the_row-Statement-2 denote.Hole.Carrier.hidden
statement_row-hidden [] = refl
statement_row-hidden (x ∷ xs) = ap (λ rest. also (statement_trees x) rest) (statement_row-hidden xs)

pub item_row-hidden : (xs : List BlockItem) → item_row (in_item.TheBlock.hidden-the_row-BlockItem-0 xs) ≡ all_trees item_trees xs
unfolding in_item.TheBlock.hidden-the_row-BlockItem-0 denote.Hole.Carrier.hidden
item_row-hidden [] = refl
item_row-hidden (x ∷ xs) = ap (λ rest. also (item_trees x) rest) (item_row-hidden xs)

pub group_row-hidden : (xs : List Group) → group_row (in_item.TheBlock.hidden-the_row-Group-3 xs) ≡ all_trees group_trees xs
unfolding in_item.TheBlock.hidden-the_row-Group-3 denote.Hole.Carrier.hidden
group_row-hidden [] = refl
group_row-hidden (g ∷ xs) =
    ap (λ inside. also (one g.place (also (all_trees label_trees g.labels) inside)) (group_row (in_item.TheBlock.hidden-the_row-Group-3 xs))) (statement_row-hidden g.body)
    ∙ ap (λ rest. also (group_trees g) rest) (group_row-hidden xs)

pub element_start : (o : Object) (p : Place) (e : Expression) → path_start (path.Element o p e) ≡ o.name.place
unfolding in_expression.TheBlock.hidden-the_row-Expression-0 denote.Hole.Carrier.hidden
element_start o p e = refl

pub parentheses_start : (p : Place) (e : Expression) → expression_start (expression.Parentheses p e) ≡ p
unfolding in_expression.TheBlock.hidden-the_row-Expression-0 denote.Hole.Carrier.hidden
parentheses_start p e = refl

pub unary_start : (mark : UnaryMark) (e : Expression) → expression_start (expression.Unary mark e) ≡ mark.place
unfolding in_expression.TheBlock.hidden-the_row-Expression-0 denote.Hole.Carrier.hidden
unary_start mark e = refl

pub cast_start : (p : Place) (ty : TypeName) (e : Expression) → expression_start (expression.Cast p ty e) ≡ p
unfolding in_expression.TheBlock.hidden-the_row-Expression-0 denote.Hole.Carrier.hidden
cast_start p ty e = refl

pub binary_start : (left : Expression) (mark : BinaryMark) (right : Expression) → expression_start (expression.Binary left mark right) ≡ expression_start left
unfolding in_expression.TheBlock.hidden-the_row-Expression-0 denote.Hole.Carrier.hidden
binary_start left mark right = refl

pub conditional_start : (condition : Expression) (p : Place) (first second : Expression) → expression_start (expression.Conditional condition p first second) ≡ expression_start condition
unfolding in_expression.TheBlock.hidden-the_row-Expression-0 denote.Hole.Carrier.hidden
conditional_start condition p first second = refl

pub element_trees : (o : Object) (p : Place) (e : Expression) → path_trees (path.Element o p e) ≡ one o.name.place (expression_trees e)
unfolding in_expression.TheBlock.hidden-the_row-Expression-0 denote.Hole.Carrier.hidden
element_trees o p e = refl

pub parentheses_trees : (p : Place) (e : Expression) → expression_trees (expression.Parentheses p e) ≡ one p (expression_trees e)
unfolding in_expression.TheBlock.hidden-the_row-Expression-0 denote.Hole.Carrier.hidden
parentheses_trees p e = refl

pub unary_trees : (mark : UnaryMark) (e : Expression) → expression_trees (expression.Unary mark e) ≡ one mark.place (expression_trees e)
unfolding in_expression.TheBlock.hidden-the_row-Expression-0 denote.Hole.Carrier.hidden
unary_trees mark e = refl

pub cast_trees : (p : Place) (ty : TypeName) (e : Expression) → expression_trees (expression.Cast p ty e) ≡ one p (expression_trees e)
unfolding in_expression.TheBlock.hidden-the_row-Expression-0 denote.Hole.Carrier.hidden
cast_trees p ty e = refl

pub binary_trees : (left : Expression) (mark : BinaryMark) (right : Expression) → expression_trees (expression.Binary left mark right) ≡ one (expression_start left) (also (expression_trees left) (expression_trees right))
unfolding in_expression.TheBlock.hidden-the_row-Expression-0 denote.Hole.Carrier.hidden
binary_trees left mark right = refl

pub conditional_trees : (condition : Expression) (p : Place) (first second : Expression) → expression_trees (expression.Conditional condition p first second) ≡ one (expression_start condition) (also (expression_trees condition) (also (expression_trees first) (expression_trees second)))
unfolding in_expression.TheBlock.hidden-the_row-Expression-0 denote.Hole.Carrier.hidden
conditional_trees condition p first second = refl

pub compound_trees : (p : Place) (items : List BlockItem) → statement_trees (statement.Compound p items) ≡ one p (all_trees item_trees items)
compound_trees p items = ap (λ inside. one p inside) (item_row-hidden items)

pub if_trees : (p : Place) (c : Expression) (s : Statement) → statement_trees (statement.If p c s) ≡ one p (also (expression_trees c) (statement_trees s))
unfolding in_item.TheBlock.hidden-the_row-Statement-1 denote.Hole.Carrier.hidden
if_trees p c s = refl

pub if_else_trees : (p : Place) (c : Expression) (s t : Statement) → statement_trees (statement.IfElse p c s t) ≡ one p (also (expression_trees c) (also (statement_trees s) (statement_trees t)))
unfolding in_item.TheBlock.hidden-the_row-Statement-1 denote.Hole.Carrier.hidden
if_else_trees p c s t = refl

pub while_trees : (p : Place) (c : Expression) (s : Statement) → statement_trees (statement.While p c s) ≡ one p (also (expression_trees c) (statement_trees s))
unfolding in_item.TheBlock.hidden-the_row-Statement-1 denote.Hole.Carrier.hidden
while_trees p c s = refl

pub do_trees : (p : Place) (s : Statement) (c : Expression) → statement_trees (statement.Do p s c) ≡ one p (also (statement_trees s) (expression_trees c))
unfolding in_item.TheBlock.hidden-the_row-Statement-1 denote.Hole.Carrier.hidden
do_trees p s c = refl

pub for_trees : (p : Place) (first : ForFirst) (c : Option Expression) (step : Option Simple) (s : Statement) → statement_trees (statement.For p first c step s) ≡ one p (also (first_trees first) (also (option_trees expression_trees c) (also (option_trees simple_trees step) (statement_trees s))))
unfolding in_item.TheBlock.hidden-the_row-Statement-1 denote.Hole.Carrier.hidden
for_trees p first c step s = refl

pub switch_trees : (p : Place) (e : Expression) (groups : List Group) → statement_trees (statement.Switch p e groups) ≡ one p (also (expression_trees e) (all_trees group_trees groups))
switch_trees p e groups = ap (λ inside. one p (also (expression_trees e) inside)) (group_row-hidden groups)

pub if_start : (p : Place) (c : Expression) (s : Statement) → statement_start (statement.If p c s) ≡ p
unfolding in_item.TheBlock.hidden-the_row-Statement-1 denote.Hole.Carrier.hidden
if_start p c s = refl

pub if_else_start : (p : Place) (c : Expression) (s t : Statement) → statement_start (statement.IfElse p c s t) ≡ p
unfolding in_item.TheBlock.hidden-the_row-Statement-1 denote.Hole.Carrier.hidden
if_else_start p c s t = refl

pub while_start : (p : Place) (c : Expression) (s : Statement) → statement_start (statement.While p c s) ≡ p
unfolding in_item.TheBlock.hidden-the_row-Statement-1 denote.Hole.Carrier.hidden
while_start p c s = refl

pub do_start : (p : Place) (s : Statement) (c : Expression) → statement_start (statement.Do p s c) ≡ p
unfolding in_item.TheBlock.hidden-the_row-Statement-1 denote.Hole.Carrier.hidden
do_start p s c = refl

pub for_start : (p : Place) (first : ForFirst) (c : Option Expression) (step : Option Simple) (s : Statement) → statement_start (statement.For p first c step s) ≡ p
unfolding in_item.TheBlock.hidden-the_row-Statement-1 denote.Hole.Carrier.hidden
for_start p first c step s = refl
