use Rattle.hwcbmc_core.specs.Answers.{not_taken}
use Rattle.hwcbmc_core.proofs.AnswerLemmas.{told_right, not_taken_beside, told_beside_is}
use Rattle.hwcbmc_core.proofs.answering.pair_verdict.Goals as goal

pub returns-in-Ok-NotTaken : goal.returns-in-Ok-NotTaken
returns-in-Ok-NotTaken g c = rw c.refused.ensures (not_taken (not_taken_beside c.args.options c.args.c_text.now c.args.v_text.now c.args.trees.now.c_tree c.args.trees.now.v_tree c.args.program
    c.requires.c_read c.requires.v_read c.requires.typed c.requires.clean (rw c.in-Ok-NotTaken.field-0-is at c.in-Ok-NotTaken.ensures)))

pub returns-in-Ok-Told : goal.returns-in-Ok-Told
returns-in-Ok-Told g c = rw c.told.ensures (told_right c.args.options c.args.c_text.now c.args.v_text.now c.in-Ok-Told.told
    (told_beside_is c.args.options c.args.c_text.now c.args.v_text.now c.args.trees.now.c_tree c.args.trees.now.v_tree c.args.program c.in-Ok-Told.told
    c.requires.c_read c.requires.v_read c.requires.typed c.requires.clean (rw c.in-Ok-Told.field-0-is at c.in-Ok-Told.ensures)))

pub told_beside-requires-clause-fits : goal.told_beside-requires-clause-fits
told_beside-requires-clause-fits g c = rw c.requires.typed (c.programs_of_texts_fit.ensures c.args.c_text.now c.args.trees.now.c_tree c.requires.c_read.is c.requires.clean (rw c.requires.typed at c.requires.short))
