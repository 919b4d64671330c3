use Rattle.unwind_state.proofs.Gates.{guard_kept}
use Rattle.unwind_calls.proofs.entries.refuse.Goals as goal

pub prop-requires : goal.prop-requires
prop-requires c = guard_kept c.args.net.now c.nought.new.net c.args.guard c.in_ok-t.ensures.adds c.requires.guard
