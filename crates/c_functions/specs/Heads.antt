-- What the first part of a function says: its result, its parameters, its name (C99 6.7.5.3).
use Rattle.std.specs.Prelude.{ℕ, ◌&&◌, ◌||◌, List, [], ◌∷◌, length, map, Option, Some, None, Bool, true, false, not, bytes_eq, nat_eq, codes, eqb}
use Rattle.std.specs.List.{starts_with}
use Rattle.c_tree.specs.declared.declarations.FunctionHead.{FunctionHead}
use Rattle.c_tree.specs.declared.declarations.Parameter.{Parameter}
use Rattle.c_tree.specs.declared.declarations.ResultType.{ResultType}
use Rattle.c_tree.specs.declared.declarations.ResultType.TheVariants as result
use Rattle.joint_ir.specs.declared.ctype.IntType.{IntType}
use Rattle.joint_ir.specs.Types.{int}
use Rattle.c_words.specs.Types.{named, same_type}
use Rattle.c_statements.specs.Statements.{is_some}

-- what a function gives; nothing for `void`
abbrev pub result_of : ResultType → Option IntType
result_of (result.Void p) = None
result_of (result.Integer ty) = Some (named ty.integer)

-- the types of the parameters, in order
abbrev pub parameter_types : List Parameter → List IntType
parameter_types ps = map (λ (p : Parameter). named p.type_name.integer) ps

-- both are `void`, or both have the same type
abbrev pub same_result : Option IntType → Option IntType → Bool
same_result None None = true
same_result None (Some u) = false
same_result (Some t) None = false
same_result (Some t) (Some u) = same_type t u

-- as many types, and each the same
abbrev pub same_types : List IntType → List IntType → Bool
same_types [] [] = true
same_types [] (u ∷ us) = false
same_types (t ∷ ts) [] = false
same_types (t ∷ ts) (u ∷ us) = same_type t u && same_types ts us

-- a function whose name begins with `nondet_`, without parameters and with a result: without a body it gives any value
abbrev pub is_free : FunctionHead → Bool
is_free head = starts_with nat_eq head.name.name (codes "nondet_") && eqb (length head.parameters) 0 && is_some (result_of head.result)

-- one of the two functions that steer the circuit
abbrev pub is_known : List ℕ → Bool
is_known name = bytes_eq name (codes "set_inputs") || bytes_eq name (codes "next_timeframe")

-- the function at which a program begins (C99 5.1.2.2.1)
abbrev pub is_main : List ℕ → Bool
is_main name = bytes_eq name (codes "main")

-- `void` or `int`
abbrev pub is_int_or_void : Option IntType → Bool
is_int_or_void None = true
is_int_or_void (Some t) = same_type t int

-- `void` without parameters
abbrev pub has_known_types : FunctionHead → Bool
has_known_types head = not (is_some (result_of head.result)) && eqb (length head.parameters) 0

-- `int` or `void` without parameters (C99 5.1.2.2.1)
abbrev pub has_main_types : FunctionHead → Bool
has_main_types head = is_int_or_void (result_of head.result) && eqb (length head.parameters) 0
