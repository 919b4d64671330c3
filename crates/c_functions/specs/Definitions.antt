-- Functions with a body (C99 6.9.1): their offences, their properties and their typed form.
use Rattle.std.specs.Prelude.{ℕ, List, [], ◌∷◌, ◌++◌, length, drop, slice_get, slice_set, Option, Some, None, Bool, false, ◌||◌, if◌then◌else◌}
use Rattle.src_text.specs.declared.kind.Kind.TheVariants.{CRedeclared, CFunctionType}
use Rattle.src_text.specs.declared.refusal.Place.{Place}
use Rattle.c_tree.specs.declared.declarations.FunctionHead.{FunctionHead}
use Rattle.c_tree.specs.declared.declarations.Parameter.{Parameter}
use Rattle.c_tree.specs.declared.names.Identifier.{Identifier}
use Rattle.c_tree.specs.declared.statements.Block.{Block as BlockTree}
use Rattle.c_tree.specs.Starts.{parameter_start}
use Rattle.joint_ir.specs.declared.ctype.IntType.{IntType}
use Rattle.joint_ir.specs.declared.program.Function.{Function}
use Rattle.joint_ir.specs.declared.program.Prop.{Prop}
use Rattle.joint_ir.specs.declared.program.PropKind.TheVariants as kind
use Rattle.joint_ir.specs.declared.stmt.SNode.{Block}
use Rattle.joint_ir.specs.declared.stmt.TStmt.{TStmt}
use Rattle.offence_order.specs.declared.Offence.{Offence}
use Rattle.offence_order.specs.Order.{at}
use Rattle.c_words.specs.declared.notes.Site.{Site}
use Rattle.c_words.specs.Types.{named}
use Rattle.c_words.specs.Marks.{number_of}
use Rattle.c_names.specs.Scope.{Scope, declared_in}
use Rattle.c_statements.specs.declared.walk.Around.{Around}
use Rattle.c_statements.specs.Known.{Known, with_scopes, enter, leave_scope}
use Rattle.c_statements.specs.Statements.{is_some, again_offences, pending, with_local, own, items_known, items_offences, items_typed}
use Rattle.c_properties.specs.Properties.{props_of}
use Rattle.c_functions.specs.declared.definitions.Made.{Made}
use Rattle.c_functions.specs.Heads.{result_of, is_known}
use Rattle.c_functions.specs.Tables.{function_number}
use Rattle.c_functions.specs.Declarations.{head_offences, head_known}

-- a parameter is an object of the body's scope
abbrev pub param_known_as : IntType → (constant : Bool) → Option Identifier → Known → Known
param_known_as t constant None k = k
param_known_as t constant (Some x) k = with_local (with_scopes k (pending k x)) t 0 constant x

-- what is known behind a parameter of a definition
abbrev pub param_known : Parameter → Known → Known
param_known p k = param_known_as (named p.type_name.integer) (is_some p.constant) p.name k

-- a parameter of a definition has a name
abbrev pub param_offences_as : Place → Option Identifier → Known → List Offence
param_offences_as p None k = at p CFunctionType
param_offences_as p (Some x) k = again_offences x.place (declared_in k.scopes x.name)

-- what a parameter of a definition offends
abbrev pub param_offences : Known → Parameter → List Offence
param_offences k p = param_offences_as (parameter_start p) p.name k

-- what is known behind parameters of a definition
abbrev pub params_known : List Parameter → Known → Known
params_known [] k = k
params_known (p ∷ ps) k = params_known ps (param_known p k)

-- what parameters of a definition offend, in order
abbrev pub params_offences : Known → List Parameter → List Offence
params_offences k [] = []
params_offences k (p ∷ ps) = param_offences k p ++ params_offences (param_known p k) ps

-- what stands around a body: the result of its function, and neither a loop nor a `switch`
abbrev pub around_of : FunctionHead → Around
around_of head = record { result = result_of head.result; in_loop = false; may_break = false }

-- parameters and body share a scope, and the function's own property stands first
abbrev pub inside : FunctionHead → Known → Known
inside head k = params_known head.parameters (own kind.Recursion head.name.place (enter k))

-- what parameters and body of a definition offend
abbrev pub function_offences : FunctionHead → BlockTree → Known → List Offence
function_offences head body k =
    params_offences (own kind.Recursion head.name.place (enter k)) head.parameters ++ items_offences (around_of head) (inside head k) body.items

-- what is known behind a function's body, whose scope ends with it
abbrev pub function_known : FunctionHead → BlockTree → Known → Known
function_known head body k = leave_scope (items_known body.items (inside head k))

-- the typed statements of a function's body
abbrev pub function_typed : FunctionHead → BlockTree → Known → List TStmt
function_typed head body k = items_typed (around_of head) (inside head k) body.items

-- a function that is there and has a body
abbrev pub has_body : Option Function → Bool
has_body None = false
has_body (Some f) = is_some f.body

-- a second body, or a body of `set_inputs` or `next_timeframe`
abbrev pub body_offences : (names : List Scope) → List Function → FunctionHead → Place → List Offence
body_offences names functions head p =
    if has_body (slice_get functions (function_number names head.name.name)) || is_known head.name.name then at p CRedeclared else []

-- a function with its number of parameters, the place of the first one, and the statements of its body
abbrev pub with_params : FunctionHead → (first : ℕ) → Place → List TStmt → Function
with_params head first p items = record {
  name = head.name.name;
  result = result_of head.result;
  first = first;
  params = number_of (length head.parameters);
  body = Some (record { place = p; node = Block items });
}

-- a function with its body; its parameters stand first among its objects
abbrev pub defined : FunctionHead → BlockTree → Known → Function
defined head body k = with_params head (number_of (length k.locals)) body.place (function_typed head body k)

-- the properties of a function
abbrev pub function_props : FunctionHead → (before : ℕ) → List Site → List Prop
function_props head before sites = props_of head.name.name (drop before sites)

-- what a definition offends: its first part, that its body stood before or may not be, then parameters and body
abbrev pub definition_offences : (names : List Scope) → List Function → FunctionHead → BlockTree → Known → List Offence
definition_offences names functions head body k =
    head_offences k head ++ (body_offences names functions head body.place ++ function_offences head body (head_known names head k))

-- what is known behind a definition
abbrev pub definition_known : (names : List Scope) → FunctionHead → BlockTree → Known → Known
definition_known names head body k = function_known head body (head_known names head k)

-- with a function's body and properties
abbrev pub definition_made : (names : List Scope) → FunctionHead → BlockTree → Known → Made → Made
definition_made names head body k m = record {
  functions = slice_set m.functions (function_number names head.name.name) (defined head body (head_known names head k));
  props = m.props ++ function_props head (length k.sites) (definition_known names head body k).sites;
}
