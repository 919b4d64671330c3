-- The typed program of a text is well-formed where nothing in the text is an offence.
use Rattle.std.proofs.lemmas.List.Elements.{All-weaker}
use Rattle.c_program_laws.specs.Laws as typed_files
use Rattle.c_program_laws.proofs.Programs.{programs_fit}
use Rattle.c_text_laws.specs.Bytes.{ExternalBytes}
use Rattle.c_text_laws.proofs.Built.{texts_have_bytes}
use Rattle.c_text_programs.specs.Laws.{ProgramsOfTextsFit}
use Rattle.c_text_programs.proofs.Typing.{external_bytes}

pub programs_of_texts_fit : ProgramsOfTextsFit
programs_of_texts_fit text tree source none short =
    programs_fit tree (All-weaker ExternalBytes typed_files.ExternalBytes external_bytes tree.externals (texts_have_bytes text tree source)) none short
