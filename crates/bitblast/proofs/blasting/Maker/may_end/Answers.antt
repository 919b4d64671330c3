use Rattle.bitblast.proofs.Ending.{may_ended}
use Rattle.bitblast.proofs.blasting.Maker.may_end.Goals as goal

pub returns : goal.returns
returns c = may_ended c.args.terms.now c.args.self.now _ _ _ _ c.args.guard.0 c.args.t.0 c.args.breaks _ c.opposite.result _ _ c.in_ok-fails.ensures c.in_ok-self.ensures c.opposite.ensures.value c.in_ok-self-2.ensures
