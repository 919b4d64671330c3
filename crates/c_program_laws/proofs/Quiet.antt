-- No property of an expression or of a statement is a function's own.
use Rattle.std.proofs.Common.{◌≡◌, ℕ, List, [], ◌∷◌, ◌++◌, Bool, true, false, refl}
use Rattle.std.specs.Prelude.{Option, Some, None}
use Rattle.src_text.specs.declared.refusal.Place.{Place}
use Rattle.c_tree.specs.declared.declarations.Declarator.{Declarator}
use Rattle.c_tree.specs.declared.declarations.Declarator.TheVariants as declarator
use Rattle.c_tree.specs.declared.declarations.Initializer.{Initializer}
use Rattle.c_tree.specs.declared.declarations.Initializer.TheVariants as initializer
use Rattle.c_tree.specs.declared.expressions.Expression.{Expression}
use Rattle.c_tree.specs.declared.expressions.Expression as expression
use Rattle.c_tree.specs.declared.expressions.Path.{Path}
use Rattle.c_tree.specs.declared.expressions.Path as path
use Rattle.c_tree.specs.declared.expressions.UnaryMark.{UnaryMark}
use Rattle.c_tree.specs.declared.statements.Simple.{Simple}
use Rattle.c_tree.specs.declared.statements.Simple.TheVariants as simple
use Rattle.joint_ir.specs.declared.ctype.IntType.{IntType}
use Rattle.joint_ir.specs.declared.expr.BinaryOp.{BinaryOp}
use Rattle.joint_ir.specs.declared.expr.BinaryOp.TheVariants as b
use Rattle.joint_ir.specs.declared.expr.UnaryOp.{UnaryOp}
use Rattle.joint_ir.specs.declared.expr.UnaryOp.TheVariants as u
use Rattle.joint_ir.specs.Statements.{is_recursion}
use Rattle.joint_ir.specs.Types.{int}
use Rattle.c_words.specs.declared.marks.Meaning.{Meaning}
use Rattle.c_words.specs.declared.marks.Meaning.TheVariants as meaning
use Rattle.c_words.specs.declared.notes.Site.{Site}
use Rattle.c_words.specs.Marks.{division_kind, meaning_of, other_kind, overflow_if, sites_of, unary_kind, unary_op, update_op}
use Rattle.c_words.specs.Types.{common, promoted}
use Rattle.c_names.specs.Scope.{Scope}
use Rattle.c_expressions.specs.Expressions.{bounds_site, mark_sites, operator_sites, path_sites, path_type, sites_in, type_of, unary_sites, unary_type}
use Rattle.c_statements.specs.declared.calls.Callee.{Callee}
use Rattle.c_statements.specs.declared.calls.Callee.TheVariants as callee_as
use Rattle.c_statements.specs.Calls.{args_sites, callee, init_sites}
use Rattle.c_statements.specs.Known.{Known}
use Rattle.c_statements.specs.Simple.{frame_sites, simple_sites, step_op, update_type}
use Rattle.c_statements.specs.Statements.{condition_sites, option_init_sites, step_sites, value_sites}

-- none of these properties is a function's own
abbrev pub AreQuiet : List Site → Type 0
AreQuiet [] = Unit {0}
AreQuiet (s ∷ ss) = (is_recursion s.kind ≡ false) × AreQuiet ss

pub quiet_both : (xs ys : List Site) → AreQuiet xs → AreQuiet ys → AreQuiet (xs ++ ys)
quiet_both [] ys h g = g
quiet_both (x ∷ xs) ys h g = (h.0, quiet_both xs ys h.1 g)

overflow_quiet : (s : Bool) (p : Place) → AreQuiet (sites_of (overflow_if s) p)
overflow_quiet true p = (refl, tt)
overflow_quiet false p = tt

division_quiet : (op : BinaryOp) (p : Place) → AreQuiet (sites_of (division_kind op) p)
division_quiet b.Add p = tt
division_quiet b.Sub p = tt
division_quiet b.Mul p = tt
division_quiet b.Div p = (refl, tt)
division_quiet b.Rem p = (refl, tt)
division_quiet b.Shl p = tt
division_quiet b.Shr p = tt
division_quiet b.And p = tt
division_quiet b.Or p = tt
division_quiet b.Xor p = tt
division_quiet b.Eq p = tt
division_quiet b.Ne p = tt
division_quiet b.Lt p = tt
division_quiet b.Le p = tt
division_quiet b.Gt p = tt
division_quiet b.Ge p = tt

other_quiet : (op : BinaryOp) (s : Bool) (p : Place) → AreQuiet (sites_of (other_kind op s) p)
other_quiet b.Add s p = overflow_quiet s p
other_quiet b.Sub s p = overflow_quiet s p
other_quiet b.Mul s p = overflow_quiet s p
other_quiet b.Div s p = overflow_quiet s p
other_quiet b.Rem s p = overflow_quiet s p
other_quiet b.Shl s p = (refl, tt)
other_quiet b.Shr s p = (refl, tt)
other_quiet b.And s p = tt
other_quiet b.Or s p = tt
other_quiet b.Xor s p = tt
other_quiet b.Eq s p = tt
other_quiet b.Ne s p = tt
other_quiet b.Lt s p = tt
other_quiet b.Le s p = tt
other_quiet b.Gt s p = tt
other_quiet b.Ge s p = tt

unary_quiet : (op : UnaryOp) (s : Bool) (p : Place) → AreQuiet (sites_of (unary_kind op s) p)
unary_quiet u.Plus s p = tt
unary_quiet u.Minus s p = overflow_quiet s p
unary_quiet u.Not s p = tt
unary_quiet u.Flip s p = tt

operator_quiet : (op : BinaryOp) (s : Bool) (p : Place) → AreQuiet (operator_sites op s p)
operator_quiet op s p = quiet_both (sites_of (division_kind op) p) (sites_of (other_kind op s) p) (division_quiet op p) (other_quiet op s p)

mark_quiet : (m : Meaning) (t v : IntType) (p : Place) → AreQuiet (mark_sites m t v p)
mark_quiet (meaning.Logic op) t v p = tt
mark_quiet (meaning.Arithmetic op) t v p = operator_quiet op (common t v).signed p
mark_quiet (meaning.Comparison op) t v p = tt
mark_quiet (meaning.Shift op) t v p = operator_quiet op (promoted t).signed p

mutual
  path_quiet : (env : List Scope) (x : Path) → AreQuiet (path_sites env x)
  path_quiet env (path.Object o) = tt
  path_quiet env (path.Element' o p _ (path.more_of-Expression e _)) = quiet_both (sites_in env e) (bounds_site p) (expression_quiet env e) (refl, tt)

  pub expression_quiet : (env : List Scope) (e : Expression) → AreQuiet (sites_in env e)
  expression_quiet env (expression.Integer p spelled) = tt
  expression_quiet env (expression.Character p value) = tt
  expression_quiet env (expression.True p) = tt
  expression_quiet env (expression.False p) = tt
  expression_quiet env (expression.Read x) = path_quiet env x
  expression_quiet env (expression.Parentheses' p _ (expression.more_of-Expression e _)) = expression_quiet env e
  expression_quiet env (expression.Unary' mark _ (expression.more_of-Expression e _)) =
      quiet_both (sites_in env e) (unary_sites mark (type_of env e)) (expression_quiet env e)
      (unary_quiet (unary_op mark.operator) (unary_type (unary_op mark.operator) (type_of env e)).signed mark.place)
  expression_quiet env (expression.Cast' p ty _ (expression.more_of-Expression e _)) = expression_quiet env e
  expression_quiet env (expression.Binary' _ (expression.more_of-Expression left _) mark _ (expression.more_of-Expression right _)) =
      let own = mark_sites (meaning_of mark.operator) (type_of env left) (type_of env right) mark.place in
      quiet_both (sites_in env left) (sites_in env right ++ own) (expression_quiet env left)
      (quiet_both (sites_in env right) own (expression_quiet env right) (mark_quiet (meaning_of mark.operator) (type_of env left) (type_of env right) mark.place))
  expression_quiet env (expression.Conditional' _ (expression.more_of-Expression condition _) p _ (expression.more_of-Expression first _) _ (expression.more_of-Expression second _)) =
      quiet_both (sites_in env condition) (sites_in env first ++ sites_in env second) (expression_quiet env condition)
      (quiet_both (sites_in env first) (sites_in env second) (expression_quiet env first) (expression_quiet env second))

pub args_quiet : (env : List Scope) (es : List Expression) → AreQuiet (args_sites env es)
args_quiet env [] = tt
args_quiet env (e ∷ es) = quiet_both (sites_in env e) (args_sites env es) (expression_quiet env e) (args_quiet env es)

init_quiet : (env : List Scope) (i : Initializer) → AreQuiet (init_sites env i)
init_quiet env (initializer.Value e) = expression_quiet env e
init_quiet env (initializer.Called call) = args_quiet env call.arguments

frame_quiet : (p : Place) (at : Callee) → AreQuiet (frame_sites p at)
frame_quiet p callee_as.Unknown = tt
frame_quiet p callee_as.NotFunction = tt
frame_quiet p callee_as.SetInputs = tt
frame_quiet p callee_as.NextFrame = (refl, tt)
frame_quiet p (callee_as.Declared f) = tt

pub simple_quiet : (env : List Scope) (s : Simple) → AreQuiet (simple_sites env s)
simple_quiet env (simple.Assign x i) = quiet_both (path_sites env x) (init_sites env i) (path_quiet env x) (init_quiet env i)
simple_quiet env (simple.Update x mark e) =
    let op = update_op mark.operator in
    let signed = (update_type op (path_type env x) (type_of env e)).signed in
    quiet_both (path_sites env x) (sites_in env e ++ operator_sites op signed mark.place) (path_quiet env x)
    (quiet_both (sites_in env e) (operator_sites op signed mark.place) (expression_quiet env e) (operator_quiet op signed mark.place))
simple_quiet env (simple.StepAfter x mark) =
    let signed = (common (path_type env x) int).signed in
    quiet_both (path_sites env x) (operator_sites (step_op mark.operator) signed mark.place) (path_quiet env x) (operator_quiet (step_op mark.operator) signed mark.place)
simple_quiet env (simple.StepBefore mark x) =
    let signed = (common (path_type env x) int).signed in
    quiet_both (path_sites env x) (operator_sites (step_op mark.operator) signed mark.place) (path_quiet env x) (operator_quiet (step_op mark.operator) signed mark.place)
simple_quiet env (simple.Called call) =
    quiet_both (args_sites env call.arguments) (frame_sites call.name.place (callee env call)) (args_quiet env call.arguments) (frame_quiet call.name.place (callee env call))

pub value_quiet : (env : List Scope) (d : Declarator) → AreQuiet (value_sites env d)
value_quiet env (declarator.Plain x) = tt
value_quiet env (declarator.Initialized x i) = init_quiet env i
value_quiet env (declarator.Array x n) = tt
value_quiet env (declarator.InitializedArray x n es) = args_quiet env es

pub returned_quiet : (env : List Scope) (i : Option Initializer) → AreQuiet (option_init_sites env i)
returned_quiet env None = tt
returned_quiet env (Some i) = init_quiet env i

pub condition_quiet : (k : Known) (e : Option Expression) → AreQuiet (condition_sites k e)
condition_quiet k None = tt
condition_quiet k (Some e) = expression_quiet k.scopes e

pub step_quiet : (k : Known) (s : Option Simple) → AreQuiet (step_sites k s)
step_quiet k None = tt
step_quiet k (Some s) = simple_quiet k.scopes s
