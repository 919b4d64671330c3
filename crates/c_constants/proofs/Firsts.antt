-- First tokens, case by case.
use Rattle.std.proofs.Common.{◌≡◌, sym, ap, ◌∙◌}
use Rattle.src_text.specs.declared.refusal.Place.{Place}
use Rattle.c_tree.specs.declared.declarations.TypeName.{TypeName}
use Rattle.c_tree.specs.declared.expressions.BinaryMark.{BinaryMark}
use Rattle.c_tree.specs.declared.expressions.UnaryMark.{UnaryMark}
use Rattle.c_tree.specs.declared.expressions.Expression.{Expression}
use Rattle.c_tree.specs.declared.expressions.Expression as expression
use Rattle.c_tree.specs.declared.expressions.Expression.TheBlock.{hidden-the_row-Expression-0}
use Rattle.c_tree.specs.declared.expressions.Object.{Object}
use Rattle.c_tree.specs.declared.expressions.Path.{Path}
use Rattle.c_tree.specs.declared.expressions.Path as path
use denote.Hole.Carrier.{hidden}
use Rattle.c_tree.specs.Starts.{path_start, expression_start}

pub element_first : (x : Path) (o : Object) (p : Place) (e : Expression) → x ≡ path.Element o p e → o.name.place ≡ path_start x
unfolding hidden-the_row-Expression-0 hidden
element_first x o p e is = ap path_start (sym is)

pub parentheses_first : (e a : Expression) (p : Place) → e ≡ expression.Parentheses p a → p ≡ expression_start e
unfolding hidden-the_row-Expression-0 hidden
parentheses_first e a p is = ap expression_start (sym is)

pub unary_first : (e a : Expression) (mark : UnaryMark) → e ≡ expression.Unary mark a → mark.place ≡ expression_start e
unfolding hidden-the_row-Expression-0 hidden
unary_first e a mark is = ap expression_start (sym is)

pub cast_first : (e a : Expression) (p : Place) (ty : TypeName) → e ≡ expression.Cast p ty a → p ≡ expression_start e
unfolding hidden-the_row-Expression-0 hidden
cast_first e a p ty is = ap expression_start (sym is)

pub binary_first : (e x y got : Expression) (mark : BinaryMark) (p : Place) → e ≡ expression.Binary x mark y → got ≡ x → p ≡ expression_start got → p ≡ expression_start e
unfolding hidden-the_row-Expression-0 hidden
binary_first e x y got mark p is is_x h = h ∙ ap expression_start is_x ∙ ap expression_start (sym is)

pub conditional_first : (e c x y got : Expression) (q p : Place) → e ≡ expression.Conditional c q x y → got ≡ c → p ≡ expression_start got → p ≡ expression_start e
unfolding hidden-the_row-Expression-0 hidden
conditional_first e c x y got q p is is_c h = h ∙ ap expression_start is_c ∙ ap expression_start (sym is)
