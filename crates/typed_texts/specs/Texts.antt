-- What a text of C is.
use Rattle.std.specs.Prelude.{◌≡◌, ◌≤◌, ◌^◌, ◌⊎◌, ℕ, List, [], length}
use Rattle.src_text.specs.declared.refusal.Refusal.{Refusal}
use Rattle.c_tree.specs.declared.file.CTree.{CTree}
use Rattle.joint_ir.specs.declared.program.CProgram.{CProgram}
use Rattle.joint_ir.specs.WellFormed.{FitsProgram}
use Rattle.c_parse.specs.declared.read.ParseEnd.TheVariants as reading
use Rattle.c_parse.specs.Ends.{HasTree, EndsAt}
use Rattle.c_types.specs.declared.ends.TypeEnd.TheVariants as typing
use Rattle.c_types.specs.Ends.{IsEnd}
use Rattle.c_types.specs.Files.{c_offences, program_of}
use Rattle.typed_texts.specs.declared.TypedText.{TypedText}
use Rattle.typed_texts.specs.declared.TypedText.TheVariants.{Typed, Refused, TooLong}

-- the text has a tree without offence, of which this is the typed program, and it is well-formed
pub record HasProgram (text : List ℕ) (p : CProgram) : Type 0 where
  pub tree : CTree
  pub read : HasTree text tree
  pub clean : c_offences tree ≡ []
  pub is : p ≡ program_of tree
  pub fits : FitsProgram p

-- the text has a tree, and this is its first offence, by place and then by number
pub record HasOffence (text : List ℕ) (r : Refusal) : Type 0 where
  pub tree : CTree
  pub read : HasTree text tree
  pub first : IsEnd (c_offences tree) (typing.Refused r)

-- what a text is: a program, or what refuses it, as it is read or as it is typed
abbrev pub IsTypedText : List ℕ → TypedText → Type 0
IsTypedText text (Typed p) = HasProgram text p
IsTypedText text (Refused r) = EndsAt text (reading.Refused r) ⊎ HasOffence text r
IsTypedText text TooLong = 2 ^ 30 ≤ length text
