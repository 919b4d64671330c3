-- What the typed program of a file has of its source.
use Rattle.std.specs.Prelude.{◌≡◌, ◌+◌, ◌<◌, ◌^◌, ℕ, List, [], length, slice_get, false, Some, All}
use Rattle.c_tree.specs.declared.declarations.FunctionHead.{FunctionHead}
use Rattle.c_tree.specs.declared.declarations.Globals.{Globals}
use Rattle.c_tree.specs.declared.file.CTree.{CTree}
use Rattle.c_tree.specs.declared.file.External.{External}
use Rattle.c_tree.specs.declared.file.External.TheVariants as external
use Rattle.c_tree.specs.declared.statements.Block.{Block}
use Rattle.joint_ir.specs.declared.program.CProgram.{CProgram}
use Rattle.joint_ir.specs.declared.program.Function.{Function}
use Rattle.joint_ir.specs.declared.stmt.SNode.{Block as SBlock}
use Rattle.joint_ir.specs.WellFormed.{FitsProgram, FitsStmt, FitsVar, Scope, scope_of}
use Rattle.c_statements.specs.Known.{Known}
use Rattle.c_words.specs.declared.notes.Site.{Site}
use Rattle.c_statement_laws.specs.Agreeing.{AreFew, IsPrefix, IsSetting, ItemBytes}
use Rattle.c_functions.specs.Heads.{result_of}
use Rattle.c_functions.specs.Definitions.{defined, function_known, function_offences, function_typed}
use Rattle.c_objects.specs.Objects.{globals_offences, globals_vars}
use Rattle.c_types.specs.Ends.{IsShort}
use Rattle.c_types.specs.Files.{c_offences, program_of}

-- where a function stands: no local is visible
abbrev pub outside : CProgram → (function : ℕ) → Scope
outside p f = record { program = p; here = f; locals = []; in_loop = false; may_break = false }

-- the objects of file scope (C99 6.7.8, 6.9.2): where nothing in their declaration is an offence, each has a type, first values
-- in its type, and no more of them than elements
abbrev pub ObjectsFit : Type 0
ObjectsFit = (before : ℕ) (g : Globals) (k : Known) → globals_offences before g k ≡ [] → All FitsVar (globals_vars g)

-- the body of a function (C99 6.9.1): where nothing in it is an offence, it is well-formed where the function's parameters are
-- declared, if what names mean before the function fits the program, and the function's result is that of its head
abbrev pub BodiesFit : Type 0
BodiesFit =
    (p : CProgram) (all : List Site) → AreFew p all → (f : ℕ) (fn : Function) (head : FunctionHead) (body : Block) (k : Known) → slice_get p.functions f ≡ Some fn → fn.result ≡ result_of head.result →
    IsSetting (outside p f) all k.fns k.scopes → length k.locals + length head.parameters < 2 ^ 32 →
    IsPrefix (function_known head body k).locals p.locals → IsPrefix (function_known head body k).sites all →
    function_offences head body k ≡ [] → All ItemBytes body.items →
    FitsStmt (scope_of p f (defined head body k)) (SBlock (function_typed head body k))

-- what the tree of a file has by its text: in the bodies of functions each character is a byte, and each group of a `switch` has
-- a label
abbrev pub ExternalBytes : External → Type 0
ExternalBytes (external.Struct p tag members) = Unit {0}
ExternalBytes (external.Mirror p tag x) = Unit {0}
ExternalBytes (external.Bound p ty x) = Unit {0}
ExternalBytes (external.Function head) = Unit {0}
ExternalBytes (external.Definition head body) = All ItemBytes body.items
ExternalBytes (external.Objects g) = Unit {0}

-- a whole file (C99 6.9): where nothing in it is an offence, its typed program is well-formed, if its lists have places of 32 bits
abbrev pub ProgramsFit : Type 0
ProgramsFit = (tree : CTree) → All ExternalBytes tree.externals → c_offences tree ≡ [] → IsShort (program_of tree) → FitsProgram (program_of tree)
