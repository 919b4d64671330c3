-- The constants that expressions are by themselves.
use Rattle.std.specs.Prelude.{[], Option, Some, None, Bool}
use Rattle.v_tree.specs.declared.expr.Expr.{Expr}
use Rattle.elab_names.specs.declared.constant.Constant.{Constant}
use Rattle.elab_names.specs.declared.constant.Standing.{Standing}
use Rattle.elab_names.specs.declared.constant.Worth.{Worth}
use Rattle.elab_names.specs.declared.constant.Worth.TheVariants.{Value, Open, NotConstant}
use Rattle.elab_names.specs.Names.{Scope}
use Rattle.elab_names.specs.Measured.{constant_of}

-- a constant, if its value and its sign are known
abbrev pub constant_from : Option Bool → Worth → Option Constant
constant_from None w = None
constant_from (Some signed) (Value w) = Some (record { word = w; signed = signed })
constant_from (Some signed) Open = None
constant_from (Some signed) NotConstant = None

-- the constant that a part is
abbrev pub standing_constant : Standing → Option Constant
standing_constant s = constant_from s.signed s.worth

-- the constant that an expression is by itself, with its length and its sign
abbrev pub given_constant : Scope → Expr → Option Constant
given_constant names e = standing_constant (constant_of names [] e)
