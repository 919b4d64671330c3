use Rattle.unwind_simple.proofs.Statements.{grown_guard, done_assume}
use Rattle.unwind_simple.proofs.simple.assume.Goals as goal

pub cut-requires : goal.cut-requires
cut-requires c = grown_guard c.args.at.now c.args.net.now c.value.new.net c.args.guard c.in_ok-t.ensures.grows c.requires.guard

pub returns : goal.returns
returns c =
    done_assume c.args.at.now c.args.net.now c.value.new.net c.cut.new.net c.args.state.now c.args.e.now c.args.guard c.in_ok-t.t c.only.result c.only.ensures c.requires c.in_ok-t.ensures c.in_ok-cut.ensures
