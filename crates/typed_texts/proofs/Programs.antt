-- The typed program of a text without offence.
use Rattle.std.proofs.Common.{rules, ◌≡◌, ℕ, List, []}
use Rattle.c_tree.specs.declared.file.CTree.{CTree}
use Rattle.joint_ir.specs.declared.program.CProgram.{CProgram}
use Rattle.c_parse.specs.Ends.{HasTree}
use Rattle.c_types.specs.Ends.{IsShort}
use Rattle.c_types.specs.Files.{c_offences, program_of}
use Rattle.c_text_programs.specs.Laws.{ProgramsOfTextsFit}
use Rattle.typed_texts.specs.Texts.{HasProgram}

pub has_program : (text : List ℕ) (tree : CTree) (p : CProgram) → HasTree text tree → p ≡ program_of tree → c_offences tree ≡ [] → IsShort p → ProgramsOfTextsFit → HasProgram text p
has_program text tree p read is clean short fit = record { tree = tree; read = read; clean = clean; is = is; fits = rw is (fit text tree read.is clean (rw is at short)) }
