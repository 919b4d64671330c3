-- Calls, and what objects are set to.
use Rattle.std.specs.Prelude.{ℕ, ◌+◌, List, [], ◌∷◌, ◌++◌, length, slice_get, Option, Some, None, Bool, bytes_eq, codes, eqb, if◌then◌else◌}
use Rattle.src_text.specs.declared.refusal.Place.{Place}
use Rattle.src_text.specs.declared.kind.Kind.TheVariants.{CUnknownName, CNotInteger, CNotFunction, CArgCount, CNoBody}
use Rattle.c_tree.specs.declared.declarations.Initializer.{Initializer}
use Rattle.c_tree.specs.declared.declarations.Initializer.TheVariants as initializer
use Rattle.c_tree.specs.declared.expressions.Call.{Call}
use Rattle.c_tree.specs.declared.expressions.Expression.{Expression}
use Rattle.joint_ir.specs.declared.ctype.IntType.{IntType}
use Rattle.joint_ir.specs.declared.expr.TExpr.{TExpr}
use Rattle.joint_ir.specs.declared.stmt.TCall.{TCall}
use Rattle.joint_ir.specs.declared.stmt.TInit.{TInit}
use Rattle.joint_ir.specs.declared.stmt.TInit.TheVariants as init
use Rattle.offence_order.specs.declared.Offence.{Offence}
use Rattle.c_words.specs.declared.notes.Site.{Site}
use Rattle.offence_order.specs.Order.{at}
use Rattle.c_names.specs.declared.scope.Entry.{Entry}
use Rattle.c_names.specs.declared.scope.Entry.TheVariants as entry
use Rattle.c_names.specs.Scope.{Scope, lookup}
use Rattle.c_expressions.specs.Expressions.{typed_of, offences_in, sites_in, converted_to}
use Rattle.c_statements.specs.declared.calls.Callee.{Callee}
use Rattle.c_statements.specs.declared.calls.Callee.TheVariants.{Unknown, NotFunction, SetInputs, NextFrame, Declared}
use Rattle.c_statements.specs.declared.calls.Signature.{Signature}

-- `set_inputs` and `next_timeframe` may be called without a declaration
abbrev pub known_or : List ℕ → Callee → Callee
known_or name other = if bytes_eq name (codes "set_inputs") then SetInputs else if bytes_eq name (codes "next_timeframe") then NextFrame else other

-- what a name calls, by its entry in the scopes
abbrev pub callee_of : Option Entry → List ℕ → Callee
callee_of None name = known_or name Unknown
callee_of (Some entry.Pending) name = Unknown
callee_of (Some (entry.Object o)) name = NotFunction
callee_of (Some entry.Mirror) name = NotFunction
callee_of (Some (entry.Function f)) name = known_or name (Declared f)

-- what a call calls
abbrev pub callee : List Scope → Call → Callee
callee env call = callee_of (lookup env call.name.name) call.name.name

-- a call has as many arguments as the function has parameters (C99 6.5.2.2p2)
abbrev pub count_offences : Place → (wanted given : ℕ) → List Offence
count_offences p wanted given = if eqb wanted given then [] else at p CArgCount

-- a function that is called has to be one that has a body
abbrev pub body_offences : Place → (callable : Bool) → List Offence
body_offences p callable = if callable then [] else at p CNoBody

-- what a call of a function offends: the number of its arguments, and the want of a body
abbrev pub signature_offences : Place → (given : ℕ) → Option Signature → List Offence
signature_offences p given None = []
signature_offences p given (Some s) = count_offences p (length s.params) given ++ body_offences p s.callable

-- what the name and the number of arguments of a call offend
abbrev pub callee_offences : List Signature → Place → (given : ℕ) → Callee → List Offence
callee_offences fns p given Unknown = at p CUnknownName
callee_offences fns p given NotFunction = at p CNotFunction
callee_offences fns p given SetInputs = count_offences p 0 given
callee_offences fns p given NextFrame = count_offences p 0 given
callee_offences fns p given (Declared f) = signature_offences p given (slice_get fns f)

-- a void call that is used as a value
abbrev pub result_offences : Place → Option Signature → List Offence
result_offences p None = []
result_offences p (Some s) = elim s.result [ None ↦ at p CNotInteger | Some t ↦ [] ]

-- a call whose value is used has to be of a function that returns one
abbrev pub void_offences : List Signature → Place → Callee → List Offence
void_offences fns p Unknown = []
void_offences fns p NotFunction = []
void_offences fns p SetInputs = at p CNotInteger
void_offences fns p NextFrame = at p CNotInteger
void_offences fns p (Declared f) = result_offences p (slice_get fns f)

-- the types of the parameters, and none where there is no function
abbrev pub params_in : Option Signature → List IntType
params_in None = []
params_in (Some s) = s.params

-- the types of the parameters of what is called
abbrev pub params_of : List Signature → Callee → List IntType
params_of fns Unknown = []
params_of fns NotFunction = []
params_of fns SetInputs = []
params_of fns NextFrame = []
params_of fns (Declared f) = params_in (slice_get fns f)

-- an argument is converted to its parameter's type (C99 6.5.2.2p7); one too many stays as it is
abbrev pub as_param : Option IntType → TExpr → TExpr
as_param None x = x
as_param (Some t) x = converted_to t x

-- arguments, of which the first is for the i-th parameter
abbrev pub args_typed : List Scope → (base : ℕ) → List IntType → (i : ℕ) → List Expression → List TExpr
args_typed env base params i [] = []
args_typed env base params i (e ∷ es) = as_param (slice_get params i) (typed_of env base e) ∷ args_typed env (base + length (sites_in env e)) params (i + 1) es

-- what arguments offend, in order
abbrev pub args_offences : List Scope → List Expression → List Offence
args_offences env [] = []
args_offences env (e ∷ es) = offences_in env e ++ args_offences env es

-- the properties of arguments, in order
abbrev pub args_sites : List Scope → List Expression → List Site
args_sites env [] = []
args_sites env (e ∷ es) = sites_in env e ++ args_sites env es

-- what a call offends: its name and the number of its arguments first, then each argument
abbrev pub call_offences : List Signature → List Scope → Call → List Offence
call_offences fns env call = callee_offences fns call.name.place (length call.arguments) (callee env call) ++ args_offences env call.arguments

-- the arguments of a call, converted
abbrev pub call_args : List Signature → List Scope → (base : ℕ) → Call → List TExpr
call_args fns env base call = args_typed env base (params_of fns (callee env call)) 0 call.arguments

-- the typed call of a function
abbrev pub call_typed : Place → (function : ℕ) → List TExpr → TCall
call_typed p f args = record { place = p; function = f; args = args }

-- what an object takes from a call; nothing where the call has an offence
abbrev pub called : Place → Callee → List TExpr → TInit
called p Unknown args = init.Free
called p NotFunction args = init.Free
called p SetInputs args = init.Free
called p NextFrame args = init.Free
called p (Declared f) args = init.Called (call_typed p f args)

-- what a value offends: an expression, or a call that has to return a value
abbrev pub init_offences : List Signature → List Scope → Initializer → List Offence
init_offences fns env (initializer.Value e) = offences_in env e
init_offences fns env (initializer.Called call) = void_offences fns call.name.place (callee env call) ++ call_offences fns env call

-- the properties of a value: those of its expression, or of the call's arguments
abbrev pub init_sites : List Scope → Initializer → List Site
init_sites env (initializer.Value e) = sites_in env e
init_sites env (initializer.Called call) = args_sites env call.arguments

-- a value that is converted to the type of what it is stored in (C99 6.5.16.1p2)
abbrev pub init_typed : List Signature → List Scope → (base : ℕ) → IntType → Initializer → TInit
init_typed fns env base t (initializer.Value e) = init.Values (converted_to t (typed_of env base e) ∷ [])
init_typed fns env base t (initializer.Called call) = called call.name.place (callee env call) (call_args fns env base call)
