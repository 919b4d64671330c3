-- From what was noted to the answer.
use Rattle.std.proofs.Common.{◌≡◌, [], ◌∷◌, sym, ◌∙◌}
use Rattle.std.specs.Prelude.{Result, Ok, Err, IfOk, OnOk, IfErr}
use Rattle.c_tree.specs.declared.file.CTree.{CTree}
use Rattle.joint_ir.specs.declared.program.CProgram.{CProgram}
use Rattle.offence_order.proofs.Firsts.{first_none}
use Rattle.offence_order.proofs.Heads.{leading_head, leading_one}
use Rattle.c_types.specs.declared.ends.TypeEnd.{TypeEnd}
use Rattle.c_types.specs.declared.ends.TypeEnd.TheVariants.{Refused, Memory}
use Rattle.c_types.specs.declared.file.Typed.{Typed}
use Rattle.c_types.specs.Files.{c_offences, program_of}
use Rattle.c_types.specs.Ends.{IsEnd, IsJudged, IsShort, IsTypedFile}

pub judged_typed : (tree : CTree) (t : Typed) (r : Result CProgram TypeEnd) → IsTypedFile tree t → IsJudged t r → IfOk r (λ p. p ≡ program_of tree)
judged_typed tree t (Ok p) h j = j.1 ∙ h.program
judged_typed tree t (Err e) h j = tt

pub judged_none : (tree : CTree) (t : Typed) (r : Result CProgram TypeEnd) → IsTypedFile tree t → IsJudged t r → OnOk r (c_offences tree ≡ [])
judged_none tree t (Ok p) h j = first_none (c_offences tree) (sym h.first ∙ j.0)
judged_none tree t (Err e) h j = tt

pub judged_refused : (tree : CTree) (t : Typed) (r : Result CProgram TypeEnd) → IsTypedFile tree t → IsJudged t r → IfErr r (IsEnd (c_offences tree))
judged_refused tree t (Ok p) h j = tt
judged_refused tree t (Err (Refused e)) h j = (j.0, leading_head (c_offences tree ∷ []) j.0 (leading_one (c_offences tree) ∙ sym h.first ∙ j.1), j.2)
judged_refused tree t (Err Memory) h j = tt

pub judged_short : (t : Typed) (r : Result CProgram TypeEnd) → IsJudged t r → IfOk r IsShort
judged_short t (Ok p) j = j.2
judged_short t (Err e) j = tt
