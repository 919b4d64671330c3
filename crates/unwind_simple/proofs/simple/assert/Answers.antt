use Rattle.unwind_simple.proofs.Statements.{grown_guard, done_assert}
use Rattle.unwind_simple.proofs.simple.assert.Goals as goal

pub prop-requires : goal.prop-requires
prop-requires c = grown_guard c.args.at.now c.args.net.now c.value.new.net c.args.guard c.in_ok-t.ensures.grows c.requires.guard

pub returns : goal.returns
returns c =
    done_assert c.args.at.now c.args.net.now c.value.new.net c.prop.new.net c.args.state.now c.args.e.now c.args.broken c.args.guard c.in_ok-t.t c.only.result c.only.ensures c.requires c.in_ok-t.ensures c.in_ok-prop.ensures
