use Rattle.unwind_simple.proofs.Statements.{ready_in, valued}
use Rattle.unwind_simple.proofs.simple.value.Goals as goal

pub expr-requires : goal.expr-requires
expr-requires c = ready_in c.args.at.now c.args.net.now c.term_of.new.net c.args.state.now c.args.e.now c.args.guard c.in_ok-g.g c.requires c.in_ok-g.ensures

pub returns : goal.returns
returns c = valued c.args.at.now c.args.net.now c.term_of.new.net c.expr.new.net c.args.state.now c.args.e.now c.args.guard c.in_ok-g.g c.in_ok-t.t c.requires c.in_ok-g.ensures c.in_ok-t.ensures
