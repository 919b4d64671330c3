-- A whole C file: what is wrong in it, and its typed program.
use Rattle.std.specs.Prelude.{ℕ, List, [], ◌∷◌, ◌++◌, Bool, false, codes, if◌then◌else◌}
use Rattle.std.specs.List.{list_any}
use Rattle.src_text.specs.declared.kind.Kind.TheVariants.{CNoMain}
use Rattle.c_tree.specs.declared.file.CTree.{CTree}
use Rattle.c_tree.specs.declared.file.External.{External}
use Rattle.c_tree.specs.declared.file.External.TheVariants as external
use Rattle.joint_ir.specs.declared.program.CProgram.{CProgram}
use Rattle.offence_order.specs.declared.Offence.{Offence}
use Rattle.offence_order.specs.Order.{at}
use Rattle.c_functions.specs.Heads.{is_main}
use Rattle.c_functions.specs.Tables.{table_of, function_number}
use Rattle.c_structs.specs.Mirror.{nothing_declared}
use Rattle.c_types.specs.Externals.{FileKnown, externals_known, externals_offences}

-- an external gives `main` a body
abbrev pub defines_main : External → Bool
defines_main (external.Struct p tag ms) = false
defines_main (external.Mirror p tag x) = false
defines_main (external.Bound p ty x) = false
defines_main (external.Function head) = false
defines_main (external.Definition head body) = is_main head.name.name
defines_main (external.Objects g) = false

-- some function `main` has a body
abbrev pub has_main : List External → Bool
has_main xs = list_any defines_main xs

-- no function `main` has a body: at the end of the text
abbrev pub no_main_offences : CTree → List Offence
no_main_offences tree = if has_main tree.externals then [] else at tree.end CNoMain

-- before the first external: all functions of the file are known, and no name means anything yet
abbrev pub at_start : List External → FileKnown
at_start xs = record {
  known = record { fns = (table_of xs).signatures; scopes = [] ∷ []; locals = []; sites = [] };
  made = record { functions = (table_of xs).functions; props = [] };
  globals = [];
  structs = nothing_declared;
}

-- the name of the function at which a program begins
abbrev pub main_name : List ℕ
main_name = codes "main"

-- the offences of a file. Which is the first is by place, then number
abbrev pub c_offences : CTree → List Offence
c_offences tree = externals_offences (table_of tree.externals).names tree.externals (at_start tree.externals) ++ no_main_offences tree

-- the typed program, of what is known behind the last external declaration
abbrev pub program_with : FileKnown → (main : ℕ) → CProgram
program_with f main = record {
  functions = f.made.functions;
  globals = f.globals;
  locals = f.known.locals;
  mirror = f.structs.mirror;
  props = f.made.props;
  main = main;
}

-- the typed program of a file
abbrev pub program_of : CTree → CProgram
program_of tree =
    let t = table_of tree.externals in
    program_with (externals_known t.names tree.externals (at_start tree.externals)) (function_number t.names main_name)
