use Rattle.std.proofs.Common.{ap, ◌∙◌}
use Rattle.joint_ir.specs.Values.{Rows, value_of}
use Rattle.c_constants.specs.Constants.{answered}
use Rattle.c_constants.proofs.Evaluating.{over_nothing}
use Rattle.c_constants.proofs.answer.Goals as goal

pub returns : goal.returns
returns c =
    c.answer_given.ensures
    ∙ ap answered (c.value-outcome.ensures ∙ ap (λ (rows : Rows). value_of rows c.args.typed.now) (over_nothing _ _ _ _ c.new-store.ensures c.new.ensures c.new-2.ensures c.new-3.ensures))
