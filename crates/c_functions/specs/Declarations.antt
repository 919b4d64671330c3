-- Declarations of functions (C99 6.7.5.3): their offences, and what is known after them.
use Rattle.std.specs.Prelude.{◌&&◌, List, [], ◌∷◌, ◌++◌, slice_get, Option, Some, None, Bool, false, not, if◌then◌else◌}
use Rattle.src_text.specs.declared.kind.Kind.TheVariants.{CRedeclared, CFunctionType, CMain}
use Rattle.c_tree.specs.declared.declarations.FunctionHead.{FunctionHead}
use Rattle.c_tree.specs.declared.declarations.Parameter.{Parameter}
use Rattle.c_tree.specs.declared.names.Identifier.{Identifier}
use Rattle.c_tree.specs.Starts.{head_start}
use Rattle.offence_order.specs.declared.Offence.{Offence}
use Rattle.offence_order.specs.Order.{at}
use Rattle.c_names.specs.declared.scope.Entry.{Entry}
use Rattle.c_names.specs.declared.scope.Entry.TheVariants as entry
use Rattle.c_names.specs.Scope.{Scope, declare, declared_in}
use Rattle.c_statements.specs.declared.calls.Signature.{Signature}
use Rattle.c_statements.specs.Known.{Known, with_scopes, enter, leave_scope}
use Rattle.c_statements.specs.Statements.{again_offences, pending}
use Rattle.c_functions.specs.Heads.{result_of, parameter_types, same_result, same_types, is_known, is_main, has_known_types, has_main_types}
use Rattle.c_functions.specs.Tables.{function_number}

-- a declaration with another result or other parameters than the first one (C99 6.7p4)
abbrev pub differs : Option Signature → FunctionHead → Bool
differs None head = false
differs (Some s) head = not (same_result s.result (result_of head.result) && same_types s.params (parameter_types head.parameters))

-- a function's name may be declared again as a function, with the types of its first declaration
abbrev pub before_offences : List Signature → FunctionHead → Option Entry → List Offence
before_offences fns head None = []
before_offences fns head (Some (entry.Object o)) = at head.name.place CRedeclared
before_offences fns head (Some entry.Mirror) = at head.name.place CRedeclared
before_offences fns head (Some (entry.Function n)) = if differs (slice_get fns n) head then at (head_start head) CFunctionType else []
before_offences fns head (Some entry.Pending) = at head.name.place CRedeclared

-- `set_inputs` and `next_timeframe` are void and without parameters
abbrev pub known_offences : FunctionHead → List Offence
known_offences head = if is_known head.name.name then if has_known_types head then [] else at (head_start head) CFunctionType else []

-- `main` is `int` or `void`, and without parameters (C99 5.1.2.2.1)
abbrev pub main_offences : FunctionHead → List Offence
main_offences head = if is_main head.name.name then if has_main_types head then [] else at head.name.place CMain else []

-- what the first part of a function offends, in its declaration and in its definition
abbrev pub head_offences : Known → FunctionHead → List Offence
head_offences k head = before_offences k.fns head (declared_in k.scopes head.name.name) ++ (known_offences head ++ main_offences head)

-- where the name of a function means its number
abbrev pub head_known : (names : List Scope) → FunctionHead → Known → Known
head_known names head k = with_scopes k (declare k.scopes head.name.name (entry.Function (function_number names head.name.name)))

-- the parameters of a declaration have a scope of their own, in which their names mean nothing
abbrev pub name_known : Option Identifier → Known → Known
name_known None k = k
name_known (Some x) k = with_scopes k (pending k x)

-- a parameter's name that stood before among the parameters
abbrev pub name_offences : Known → Option Identifier → List Offence
name_offences k None = []
name_offences k (Some x) = again_offences x.place (declared_in k.scopes x.name)

-- what is known behind the names of parameters
abbrev pub names_known : List Parameter → Known → Known
names_known [] k = k
names_known (p ∷ ps) k = names_known ps (name_known p.name k)

-- what the names of parameters offend, in order
abbrev pub names_offences : Known → List Parameter → List Offence
names_offences k [] = []
names_offences k (p ∷ ps) = name_offences k p.name ++ names_offences (name_known p.name k) ps

-- what the declaration of a function offends: its first part, then the names of its parameters
abbrev pub declaration_offences : (names : List Scope) → FunctionHead → Known → List Offence
declaration_offences names head k = head_offences k head ++ names_offences (enter (head_known names head k)) head.parameters

-- what is known behind the declaration of a function: its parameters' names end with it (C99 6.2.1p4)
abbrev pub declaration_known : (names : List Scope) → FunctionHead → Known → Known
declaration_known names head k = leave_scope (names_known head.parameters (enter (head_known names head k)))
