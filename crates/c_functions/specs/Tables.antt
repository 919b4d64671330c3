-- The functions that a file names, each by its first declaration.
use Rattle.std.specs.Prelude.{ℕ, List, [], ◌∷◌, ◌++◌, length, Option, Some, None, ◌||◌}
use Rattle.std.specs.List.{fold}
use Rattle.c_tree.specs.declared.declarations.FunctionHead.{FunctionHead}
use Rattle.c_tree.specs.declared.file.External.{External}
use Rattle.c_tree.specs.declared.file.External.TheVariants as external
use Rattle.joint_ir.specs.declared.program.Function.{Function}
use Rattle.c_words.specs.Marks.{number_of}
use Rattle.c_names.specs.declared.scope.Entry.{Entry}
use Rattle.c_names.specs.declared.scope.Entry.TheVariants as entry
use Rattle.c_names.specs.Scope.{Scope, declare, lookup}
use Rattle.c_statements.specs.declared.calls.Signature.{Signature}
use Rattle.c_statements.specs.Statements.{is_some}
use Rattle.c_functions.specs.declared.table.Table.{Table}
use Rattle.c_functions.specs.Heads.{result_of, parameter_types, is_free}

-- the names of the functions that have a body, in one scope
abbrev pub with_body : List Scope → External → List Scope
with_body names (external.Struct p tag members) = names
with_body names (external.Mirror p tag x) = names
with_body names (external.Bound p ty x) = names
with_body names (external.Function head) = names
with_body names (external.Definition head body) = declare names head.name.name (entry.Function 0)
with_body names (external.Objects g) = names

-- the names of all functions of a file that have a body
abbrev pub bodies_of : List External → List Scope
bodies_of xs = fold with_body ([] ∷ []) xs

-- what a call needs to know of a function: it may be called where it has a body in the file, or gives any value
abbrev pub signature_of : (bodies : List Scope) → FunctionHead → Signature
signature_of bodies head = record {
  result = result_of head.result;
  params = parameter_types head.parameters;
  callable = is_some (lookup bodies head.name.name) || is_free head;
}

-- a function of which no body was read yet
abbrev pub without_body : FunctionHead → Function
without_body head = record { name = head.name.name; result = result_of head.result; first = 0; params = 0; body = None }

-- before the first function there is none
abbrev pub no_functions : Table
no_functions = record { names = [] ∷ []; signatures = []; functions = [] }

-- a function's number is how many functions were named before it
abbrev pub added : (bodies : List Scope) → Table → FunctionHead → Table
added bodies t head = record {
  names = declare t.names head.name.name (entry.Function (number_of (length t.functions)));
  signatures = t.signatures ++ signature_of bodies head ∷ [];
  functions = t.functions ++ without_body head ∷ [];
}

-- a name that stood before is the same function
abbrev pub added_if : Option Entry → (bodies : List Scope) → Table → FunctionHead → Table
added_if None bodies t head = added bodies t head
added_if (Some e) bodies t head = t

-- the table with a function, if its name is new
abbrev pub entered_head : (bodies : List Scope) → Table → FunctionHead → Table
entered_head bodies t head = added_if (lookup t.names head.name.name) bodies t head

-- the table behind an external declaration
abbrev pub entered : (bodies : List Scope) → Table → External → Table
entered bodies t (external.Struct p tag members) = t
entered bodies t (external.Mirror p tag x) = t
entered bodies t (external.Bound p ty x) = t
entered bodies t (external.Function head) = entered_head bodies t head
entered bodies t (external.Definition head body) = entered_head bodies t head
entered bodies t (external.Objects g) = t

-- all functions of a file
abbrev pub table_of : List External → Table
table_of xs = fold (entered (bodies_of xs)) no_functions xs

-- the number of a function
abbrev pub number_in : Option Entry → ℕ
number_in None = 0
number_in (Some (entry.Object o)) = 0
number_in (Some entry.Mirror) = 0
number_in (Some (entry.Function n)) = n
number_in (Some entry.Pending) = 0

-- the number of the function of a name
abbrev pub function_number : List Scope → List ℕ → ℕ
function_number names name = number_in (lookup names name)
