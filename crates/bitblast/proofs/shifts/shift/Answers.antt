use Rattle.bitblast.proofs.ShiftSteps.{shift_word}
use Rattle.bitblast.proofs.shifts.shift.Goals as goal

pub returns : goal.returns
returns c =
    shift_word c.args.direction _ _ _ _ c.args.word.now c.args.amount.now c.in_ok-near.near.items _ _ _ _ c.stages-stages.result c.requires.widths
    c.stages-stages.ensures.enough c.stages-stages.ensures.few c.stages-stages.ensures.within c.deref.ensures.0 c.opposite.ensures.value
    c.in_ok-near.ensures c.in_ok-is_far.ensures c.in_ok-made.ensures
