-- Arrays: their lengths and their initial elements (C99 6.7.5.2 and 6.7.8).
use Rattle.std.specs.Prelude.{ℕ, ◌+◌, List, [], ◌∷◌, ◌++◌, length, drop, Bool, true, false, ◌&&◌, nat_le, if◌then◌else◌}
use Rattle.std.specs.Prelude.{ℤ, pos, negsuc}
use Rattle.src_text.specs.declared.refusal.Place.{Place}
use Rattle.src_text.specs.declared.kind.Kind.TheVariants.{CLength, CInitializers}
use Rattle.c_tree.specs.declared.declarations.Declarator.{Declarator}
use Rattle.c_tree.specs.declared.declarations.Declarator.TheVariants as declarator
use Rattle.c_tree.specs.declared.expressions.Expression.{Expression}
use Rattle.c_tree.specs.Starts.{expression_start}
use Rattle.joint_ir.specs.declared.ctype.IntType.{IntType}
use Rattle.joint_ir.specs.declared.expr.TExpr.{TExpr}
use Rattle.offence_order.specs.declared.Offence.{Offence}
use Rattle.offence_order.specs.Order.{at}
use Rattle.c_names.specs.Scope.{Scope}
use Rattle.c_expressions.specs.Expressions.{typed_of, sites_in, converted_to}
use Rattle.c_constants.specs.declared.Constant.{Constant}
use Rattle.c_constants.specs.declared.Constant.TheVariants.{Is, Never, Undefined}
use Rattle.c_constants.specs.Constants.{constant_of, constant_offences}

-- an array has from 1 to 4,096 elements
abbrev pub is_length : ℤ → Bool
is_length (pos n) = nat_le 1 n && nat_le n 4096
is_length (negsuc n) = false

-- the length of an array, and 1 where it is an offence
abbrev pub length_in : ℤ → ℕ
length_in (pos n) = if is_length (pos n) then n else 1
length_in (negsuc n) = 1

-- the length of an array; 1 where it isn't known or isn't one
abbrev pub array_length : Constant → ℕ
array_length (Is n) = length_in n
array_length Never = 1
array_length Undefined = 1

-- 0 for what is no array
abbrev pub declared_length : Declarator → ℕ
declared_length (declarator.Plain x) = 0
declared_length (declarator.Initialized x i) = 0
declared_length (declarator.Array x n) = array_length (constant_of n)
declared_length (declarator.InitializedArray x n es) = array_length (constant_of n)

-- a constant that can't be an array's length is an offence (C99 6.7.5.2p1)
abbrev pub range_offences : Place → Constant → List Offence
range_offences p (Is n) = if is_length n then [] else at p CLength
range_offences p Never = []
range_offences p Undefined = []

-- the length in brackets has to be a constant expression, and a length
abbrev pub array_offences : List Scope → Expression → List Offence
array_offences env n = constant_offences env (expression_start n) n ++ range_offences (expression_start n) (constant_of n)

-- more initializers than elements are an offence, told at the first that is too much (C99 6.7.8p2)
abbrev pub first_excess : List Expression → List Offence
first_excess [] = []
first_excess (e ∷ es) = at (expression_start e) CInitializers

-- the first element past a known length
abbrev pub excess_offences : Constant → List Expression → List Offence
excess_offences (Is n) es = if is_length n then first_excess (drop (length_in n) es) else []
excess_offences Never es = []
excess_offences Undefined es = []

-- a length is looked at before the name is declared, and against the number of elements
abbrev pub length_offences : List Scope → Declarator → List Offence
length_offences env (declarator.Plain x) = []
length_offences env (declarator.Initialized x i) = []
length_offences env (declarator.Array x n) = array_offences env n
length_offences env (declarator.InitializedArray x n es) = array_offences env n ++ excess_offences (constant_of n) es

-- elements, converted to the type of the array's
abbrev pub elements_typed : List Scope → (base : ℕ) → IntType → List Expression → List TExpr
elements_typed env base t [] = []
elements_typed env base t (e ∷ es) = converted_to t (typed_of env base e) ∷ elements_typed env (base + length (sites_in env e)) t es
