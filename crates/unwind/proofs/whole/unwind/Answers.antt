use Rattle.unwind.proofs.Mains.{whole}
use Rattle.unwind.proofs.whole.unwind.Goals as goal

pub returns : goal.returns
returns c =
    whole c.args.pair.now c.args.bounds.now c.begin.new.net c.main_body.new.net c.in_ok-state.state c.main_body.new.state c.in_ok-state.ensures c.in_ok-main_body.ensures
    (c.in_ok-within.ensures c.if-not-within.false)
