-- Where expressions and statements begin, at the values that code has: the parts that lie in boxes don't matter.
use Rattle.std.proofs.Common.{◌≡◌, Option, refl}
use Rattle.src_text.specs.declared.refusal.Place.{Place}
use Rattle.c_tree.specs.Starts.{path_start, expression_start, statement_start}
use Rattle.c_tree.specs.declared.declarations.TypeName.{TypeName}
use Rattle.c_tree.specs.declared.expressions.BinaryMark.{BinaryMark}
use Rattle.c_tree.specs.declared.expressions.Expression.{Expression}
use Rattle.c_tree.specs.declared.expressions.Expression.TheVariants as expression
use Rattle.c_tree.specs.declared.expressions.Object.{Object}
use Rattle.c_tree.specs.declared.expressions.Expression as in_expression
use Rattle.c_tree.specs.declared.expressions.Path.TheVariants as path
use Rattle.c_tree.specs.declared.expressions.UnaryMark.{UnaryMark}
use Rattle.c_tree.specs.declared.statements.ForFirst.{ForFirst}
use Rattle.c_tree.specs.declared.statements.BlockItem as in_item
use Rattle.c_tree.specs.declared.statements.Simple.{Simple}
use Rattle.c_tree.specs.declared.statements.Statement.{Statement}
use Rattle.c_tree.specs.declared.statements.Statement.TheVariants as statement

pub element_start : (o : Object) (p : Place) (e : Expression) → path_start (path.Element o p e) ≡ o.name.place
unfolding in_expression.TheBlock.hidden-the_row-Expression-0 denote.Hole.Carrier.hidden
element_start o p e = refl

pub parentheses_start : (p : Place) (e : Expression) → expression_start (expression.Parentheses p e) ≡ p
unfolding in_expression.TheBlock.hidden-the_row-Expression-0 denote.Hole.Carrier.hidden
parentheses_start p e = refl

pub unary_start : (mark : UnaryMark) (e : Expression) → expression_start (expression.Unary mark e) ≡ mark.place
unfolding in_expression.TheBlock.hidden-the_row-Expression-0 denote.Hole.Carrier.hidden
unary_start mark e = refl

pub cast_start : (p : Place) (ty : TypeName) (e : Expression) → expression_start (expression.Cast p ty e) ≡ p
unfolding in_expression.TheBlock.hidden-the_row-Expression-0 denote.Hole.Carrier.hidden
cast_start p ty e = refl

pub binary_start : (left : Expression) (mark : BinaryMark) (right : Expression) → expression_start (expression.Binary left mark right) ≡ expression_start left
unfolding in_expression.TheBlock.hidden-the_row-Expression-0 denote.Hole.Carrier.hidden
binary_start left mark right = refl

pub conditional_start : (condition : Expression) (p : Place) (first second : Expression) → expression_start (expression.Conditional condition p first second) ≡ expression_start condition
unfolding in_expression.TheBlock.hidden-the_row-Expression-0 denote.Hole.Carrier.hidden
conditional_start condition p first second = refl

pub if_start : (p : Place) (c : Expression) (s : Statement) → statement_start (statement.If p c s) ≡ p
unfolding in_item.TheBlock.hidden-the_row-Statement-1 denote.Hole.Carrier.hidden
if_start p c s = refl

pub if_else_start : (p : Place) (c : Expression) (s t : Statement) → statement_start (statement.IfElse p c s t) ≡ p
unfolding in_item.TheBlock.hidden-the_row-Statement-1 denote.Hole.Carrier.hidden
if_else_start p c s t = refl

pub while_start : (p : Place) (c : Expression) (s : Statement) → statement_start (statement.While p c s) ≡ p
unfolding in_item.TheBlock.hidden-the_row-Statement-1 denote.Hole.Carrier.hidden
while_start p c s = refl

pub do_start : (p : Place) (s : Statement) (c : Expression) → statement_start (statement.Do p s c) ≡ p
unfolding in_item.TheBlock.hidden-the_row-Statement-1 denote.Hole.Carrier.hidden
do_start p s c = refl

pub for_start : (p : Place) (first : ForFirst) (c : Option Expression) (step : Option Simple) (s : Statement) → statement_start (statement.For p first c step s) ≡ p
unfolding in_item.TheBlock.hidden-the_row-Statement-1 denote.Hole.Carrier.hidden
for_start p first c step s = refl
