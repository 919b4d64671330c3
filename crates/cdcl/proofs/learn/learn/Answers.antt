use Rattle.cdcl.proofs.Keeping.{keeps-same}
use Rattle.cdcl.proofs.learn.learn.Goals as goal

pub returns-in_err-reserve-clause-clauses : goal.returns-in_err-reserve-clause-clauses
returns-in_err-reserve-clause-clauses g c = keeps-same c.args.arena.now.clauses c.reserve.new.self.clauses c.reserve.ensures.same
