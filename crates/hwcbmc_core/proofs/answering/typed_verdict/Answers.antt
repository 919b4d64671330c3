use Rattle.hwcbmc_core.specs.Answers.{c_offends}
use Rattle.hwcbmc_core.proofs.answering.typed_verdict.Goals as goal

pub returns-in-Err-Refused : goal.returns-in-Err-Refused
returns-in-Err-Refused g c =
    let ends = rw c.in-Err-Refused.field-0-is at c.in-Err-Refused.ensures.refused in
    rw c.in-Err-Refused.refusal-is (c_offends c.in-Err-Refused.refusal (c.args.trees.now.c_tree, c.requires.c_read, ends) (c.args.trees.now.v_tree, c.requires.v_read))
