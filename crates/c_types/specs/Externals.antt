-- External declarations, one after another (C99 6.9): their offences, and what is known after them.
use Rattle.std.specs.Prelude.{◌≡◌, List, [], ◌∷◌, ◌++◌, length}
use Rattle.c_tree.specs.declared.declarations.FunctionHead.{FunctionHead}
use Rattle.c_tree.specs.declared.declarations.Globals.{Globals}
use Rattle.c_tree.specs.declared.declarations.Member.{Member}
use Rattle.c_tree.specs.declared.declarations.TypeName.{TypeName}
use Rattle.c_tree.specs.declared.file.External.{External}
use Rattle.c_tree.specs.declared.file.External.TheVariants as external
use Rattle.c_tree.specs.declared.names.Identifier.{Identifier}
use Rattle.c_tree.specs.declared.statements.Block.{Block}
use Rattle.joint_ir.specs.declared.program.Var.{Var}
use Rattle.offence_order.specs.declared.Offence.{Offence}
use Rattle.offence_order.specs.Order.{first_of}
use Rattle.c_names.specs.Scope.{Scope}
use Rattle.c_statements.specs.Known.{Known, with_scopes}
use Rattle.c_statements.specs.Moves.{known_of}
use Rattle.c_functions.specs.declared.definitions.Made.{Made}
use Rattle.c_functions.specs.Declarations.{declaration_offences, declaration_known}
use Rattle.c_functions.specs.Definitions.{definition_offences, definition_known, definition_made}
use Rattle.c_objects.specs.Objects.{globals_offences, globals_known, globals_vars}
use Rattle.c_structs.specs.declared.Structs.{Structs}
use Rattle.c_structs.specs.Structs.{with_struct, struct_offences}
use Rattle.c_structs.specs.Mirror.{with_mirror, mirror_scopes, mirror_offences, bound_scopes, bound_offences}
use Rattle.c_types.specs.declared.file.FileTyper.{FileTyper}

-- what is known between two external declarations
pub record FileKnown : Type 0 where
  pub known : Known
  -- the functions of the file, with the bodies so far, and the properties so far
  pub made : Made
  -- the file-scope objects so far
  pub globals : List Var
  -- the tags and the mirror so far
  pub structs : Structs

-- what the typer of a file knows
abbrev pub file_known : FileTyper → FileKnown
file_known f = record { known = known_of f.typer; made = f.made; globals = f.globals; structs = f.structs }

-- it notes these offences, and then knows this
pub record FileGoes (old new : FileTyper) (offences : List Offence) (after : FileKnown) : Type 0 where
  pub first : new.typer.notes.first ≡ first_of old.typer.notes.first offences
  pub known : file_known new ≡ after

-- a struct
abbrev pub with_struct_of : Identifier → List Member → FileKnown → FileKnown
with_struct_of tag ms f = record { known = f.known; made = f.made; globals = f.globals; structs = with_struct f.structs tag ms }

-- what a struct offends
abbrev pub struct_offences_of : Identifier → List Member → FileKnown → List Offence
struct_offences_of tag ms f = struct_offences f.known.scopes f.structs tag ms

-- the mirror
abbrev pub with_mirror_of : (tag name : Identifier) → FileKnown → FileKnown
with_mirror_of tag name f = record {
  known = with_scopes f.known (mirror_scopes f.known.scopes f.structs tag name);
  made = f.made;
  globals = f.globals;
  structs = with_mirror f.structs tag name;
}

-- what the mirror's declaration offends
abbrev pub mirror_offences_of : (tag name : Identifier) → FileKnown → List Offence
mirror_offences_of tag name f = mirror_offences f.known.scopes f.structs tag name

-- `bound`
abbrev pub with_bound_of : Identifier → FileKnown → FileKnown
with_bound_of x f = record { known = with_scopes f.known (bound_scopes f.known.scopes x); made = f.made; globals = f.globals; structs = f.structs }

-- what the declaration of `bound` offends
abbrev pub bound_offences_of : TypeName → Identifier → FileKnown → List Offence
bound_offences_of ty x f = bound_offences f.known.scopes ty x

-- a function without its body
abbrev pub with_declaration : (names : List Scope) → FunctionHead → FileKnown → FileKnown
with_declaration names head f = record { known = declaration_known names head f.known; made = f.made; globals = f.globals; structs = f.structs }

-- what the declaration of a function offends
abbrev pub declaration_offences_of : (names : List Scope) → FunctionHead → FileKnown → List Offence
declaration_offences_of names head f = declaration_offences names head f.known

-- a function with its body
abbrev pub with_definition : (names : List Scope) → FunctionHead → Block → FileKnown → FileKnown
with_definition names head body f = record {
  known = definition_known names head body f.known;
  made = definition_made names head body f.known f.made;
  globals = f.globals;
  structs = f.structs;
}

-- what the definition of a function offends
abbrev pub definition_offences_of : (names : List Scope) → FunctionHead → Block → FileKnown → List Offence
definition_offences_of names head body f = definition_offences names f.made.functions head body f.known

-- objects
abbrev pub with_objects : Globals → FileKnown → FileKnown
with_objects g f = record {
  known = globals_known (length f.globals) g f.known;
  made = f.made;
  globals = f.globals ++ globals_vars g;
  structs = f.structs;
}

-- what the declaration of objects offends
abbrev pub objects_offences_of : Globals → FileKnown → List Offence
objects_offences_of g f = globals_offences (length f.globals) g f.known

-- what is known behind an external declaration
abbrev pub external_known : (names : List Scope) → External → FileKnown → FileKnown
external_known names (external.Struct p tag ms) f = with_struct_of tag ms f
external_known names (external.Mirror p tag x) f = with_mirror_of tag x f
external_known names (external.Bound p ty x) f = with_bound_of x f
external_known names (external.Function head) f = with_declaration names head f
external_known names (external.Definition head body) f = with_definition names head body f
external_known names (external.Objects g) f = with_objects g f

-- what an external declaration offends
abbrev pub external_offences : (names : List Scope) → External → FileKnown → List Offence
external_offences names (external.Struct p tag ms) f = struct_offences_of tag ms f
external_offences names (external.Mirror p tag x) f = mirror_offences_of tag x f
external_offences names (external.Bound p ty x) f = bound_offences_of ty x f
external_offences names (external.Function head) f = declaration_offences_of names head f
external_offences names (external.Definition head body) f = definition_offences_of names head body f
external_offences names (external.Objects g) f = objects_offences_of g f

-- all of them, in text order
abbrev pub externals_known : (names : List Scope) → List External → FileKnown → FileKnown
externals_known names [] f = f
externals_known names (x ∷ xs) f = externals_known names xs (external_known names x f)

-- what external declarations offend, in text order
abbrev pub externals_offences : (names : List Scope) → List External → FileKnown → List Offence
externals_offences names [] f = []
externals_offences names (x ∷ xs) f = external_offences names x f ++ externals_offences names xs (external_known names x f)
