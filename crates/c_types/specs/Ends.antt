-- How typing ends.
use Rattle.std.specs.Prelude.{◌≡◌, ℕ, ◌<◌, ◌^◌, List, [], ◌∷◌, length, drop, Some, None, Result, Ok, Err}
use Rattle.src_text.specs.declared.refusal.Lang.TheVariants.{C}
use Rattle.src_text.specs.declared.refusal.Refusal.{Refusal}
use Rattle.c_tree.specs.declared.file.CTree.{CTree}
use Rattle.c_tree.specs.declared.file.External.{External}
use Rattle.joint_ir.specs.declared.program.CProgram.{CProgram}
use Rattle.offence_order.specs.declared.Offence.{Offence}
use Rattle.offence_order.specs.Order.{first_of, IsHead}
use Rattle.c_names.specs.Scope.{Scope}
use Rattle.c_functions.specs.Tables.{table_of}
use Rattle.c_types.specs.declared.ends.TypeEnd.{TypeEnd}
use Rattle.c_types.specs.declared.ends.TypeEnd.TheVariants.{Refused, Memory}
use Rattle.c_types.specs.declared.file.FileTyper.{FileTyper}
use Rattle.c_types.specs.declared.file.Typed.{Typed}
use Rattle.c_types.specs.Externals.{file_known, externals_known, externals_offences}
use Rattle.c_types.specs.Files.{at_start, c_offences, program_of}

-- the refusal for an offence in the C file
abbrev pub refusal_of : Offence → Refusal
refusal_of o = record { lang = C; place = o.place; kind = o.kind }

-- it ends for the head of the ordered offences, or for want of memory
abbrev pub IsEnd : List Offence → TypeEnd → Type 0
IsEnd offences (Refused r) = (o : Offence) × IsHead (offences ∷ []) o × (r ≡ refusal_of o)
IsEnd offences Memory = Unit {0}

-- the places in a program's lists are numbers of 32 bits
pub record IsShort (p : CProgram) : Type 0 where
  pub functions : length p.functions < 2 ^ 32
  pub globals : length p.globals < 2 ^ 32
  pub locals : length p.locals < 2 ^ 32
  pub props : length p.props < 2 ^ 32

-- a program stands where nothing is wrong, and its places have numbers
abbrev pub IsJudged : Typed → Result CProgram TypeEnd → Type 0
IsJudged t (Ok p) = (t.first ≡ None) × (p ≡ t.program) × IsShort p
IsJudged t (Err (Refused r)) = (o : Offence) × (t.first ≡ Some o) × (r ≡ refusal_of o)
IsJudged t (Err Memory) = t.first ≡ None

-- a file that was gone through
pub record IsTypedFile (tree : CTree) (t : Typed) : Type 0 where
  pub first : t.first ≡ first_of None (c_offences tree)
  pub program : t.program ≡ program_of tree

-- before the first external
pub record IsStart (xs : List External) (names : List Scope) (f : FileTyper) : Type 0 where
  pub names_are : names ≡ (table_of xs).names
  pub first : f.typer.notes.first ≡ None
  pub known : file_known f ≡ at_start xs

-- after some externals: what is left to do, from what is done
pub record FileSoFar (names : List Scope) (old now : FileTyper) (xs : List External) (i : ℕ) : Type 0 where
  pub first_so : first_of old.typer.notes.first (externals_offences names xs (file_known old)) ≡ first_of now.typer.notes.first (externals_offences names (drop i xs) (file_known now))
  pub known_so : externals_known names xs (file_known old) ≡ externals_known names (drop i xs) (file_known now)
  pub stands : 0 < length now.typer.scopes
