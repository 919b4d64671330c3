use Rattle.bitblast.proofs.ShiftSteps.{signed_shift_word}
use Rattle.bitblast.proofs.shifts.shift_right_signed.Goals as goal

pub returns : goal.returns
returns c =
    signed_shift_word _ _ _ _ c.args.word.now c.args.amount.now c.inverted-turned.result.items _ c.in_ok-plain.plain.items _ c.in_ok-moved.moved.items _ c.inverted-back.result.items _ _ _ _
    c.requires.some c.inverted-turned.ensures.bits c.inverted-turned.ensures.value c.deref.ensures.0 c.deref-2.ensures.0 c.deref-3.ensures.0 c.deref-4.ensures.0 c.deref-5.ensures.0
    c.inverted-back.ensures.bits c.inverted-back.ensures.value c.in_ok-plain.ensures c.in_ok-moved.ensures c.in_ok-made.ensures
