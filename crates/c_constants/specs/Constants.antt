-- Constant expressions (C99 6.6): those that hold no path, and whose evaluation breaks no check.
use Rattle.std.specs.Prelude.{◌≡◌, ℕ, List, [], ◌∷◌, ◌++◌, length, Bool, true, false, ◌||◌, nat_le, if◌then◌else◌}
use Rattle.src_text.specs.declared.refusal.Place.{Place}
use Rattle.src_text.specs.declared.kind.Kind.TheVariants.{CConstant}
use Rattle.c_tree.specs.declared.expressions.Expression.{Expression}
use Rattle.c_tree.specs.declared.expressions.Expression as expression
use Rattle.joint_ir.specs.Values.{Rows, Answer, Value, Fault}
use Rattle.joint_ir.specs.States.{rows_of}
use Rattle.offence_order.specs.declared.Offence.{Offence}
use Rattle.offence_order.specs.Order.{at, first_of}
use Rattle.c_words.specs.declared.notes.Notes.{Notes}
use Rattle.c_names.specs.Scope.{Scope}
use Rattle.c_expressions.specs.Expressions.{offences_in, sites_in}
use Rattle.c_expressions.specs.Values.{CAnswer, Gives, Breaks, c_value}
use Rattle.c_constants.specs.declared.Constant.{Constant}
use Rattle.c_constants.specs.declared.Constant.TheVariants.{Is, Never, Undefined}

-- whether an expression holds a path
abbrev pub holds_path : Expression → Bool
holds_path (expression.Integer p spelled) = false
holds_path (expression.Character p value) = false
holds_path (expression.True p) = false
holds_path (expression.False p) = false
holds_path (expression.Read x) = true
holds_path (expression.Parentheses' p _ (expression.more_of-Expression e _)) = holds_path e
holds_path (expression.Unary' mark _ (expression.more_of-Expression e _)) = holds_path e
holds_path (expression.Cast' p ty _ (expression.more_of-Expression e _)) = holds_path e
holds_path (expression.Binary' _ (expression.more_of-Expression left _) mark _ (expression.more_of-Expression right _)) = if holds_path left then true else holds_path right
holds_path (expression.Conditional' _ (expression.more_of-Expression condition _) p _ (expression.more_of-Expression first _) _ (expression.more_of-Expression second _)) =
    if holds_path condition then true else if holds_path first then true else holds_path second

-- one scope, with no names, and a store without objects
abbrev pub no_names : List Scope
no_names = [] ∷ []

-- a store without objects
abbrev pub no_rows : Rows
no_rows = rows_of 0 (record { globals = []; locals = []; members = [] })

-- a number, where nothing else is wrong and no check breaks. An expression with more than 2^32 checks, which no text is
-- long enough for, has no value either
abbrev pub given : (offences : List Offence) → (few : Bool) → CAnswer → Constant
given (o ∷ offences) few a = Undefined
given [] true (Gives n) = Is n
given [] true (Breaks k p) = Never
given [] false a = Never

-- the answer of a typed expression, as a constant
abbrev pub answered : Answer → Constant
answered (Value n) = Is n
answered (Fault p) = Never

-- the constant that an expression without paths is, by what it evaluates to (C99 6.6p1)
abbrev pub evaluated : Expression → Constant
evaluated e = given (offences_in no_names e) (nat_le (length (sites_in no_names e)) 4294967296) (c_value no_names no_rows e)

-- what an expression is that must be constant
abbrev pub constant_of : Expression → Constant
constant_of e = if holds_path e then Never else evaluated e

-- an expression that can't be constant, where a constant is wanted
abbrev pub never_offences : Place → Constant → List Offence
never_offences p (Is n) = []
never_offences p Never = at p CConstant
never_offences p Undefined = []

-- the offences of an expression that must be constant, at a place
abbrev pub constant_offences : List Scope → Place → Expression → List Offence
constant_offences env p e = offences_in env e ++ never_offences p (constant_of e)

-- with offences alone
abbrev pub told : Notes → List Offence → Notes
told n offences = record { first = first_of n.first offences; sites = n.sites }

-- an expression that must be constant was looked at
pub record IsConstant (env : List Scope) (old new : Notes) (p : Place) (e : Expression) (c : Constant) : Type 0 where
  pub value : c ≡ constant_of e
  pub notes : new ≡ told old (constant_offences env p e)
