-- What the typed program of a text has of the text.
use Rattle.std.specs.Prelude.{◌≡◌, ℕ, List, []}
use Rattle.c_tree.specs.declared.file.CTree.{CTree}
use Rattle.joint_ir.specs.WellFormed.{FitsProgram}
use Rattle.c_actions.specs.Reading.{IsCSource}
use Rattle.c_types.specs.Ends.{IsShort}
use Rattle.c_types.specs.Files.{c_offences, program_of}

-- a C text (C99 6.9): where it has a tree in which nothing is an offence, its typed program is well-formed, if the program's
-- lists have places of 32 bits
abbrev pub ProgramsOfTextsFit : Type 0
ProgramsOfTextsFit = (text : List ℕ) (tree : CTree) → IsCSource text tree → c_offences tree ≡ [] → IsShort (program_of tree) → FitsProgram (program_of tree)
