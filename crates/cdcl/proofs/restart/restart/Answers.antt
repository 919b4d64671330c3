use Rattle.cdcl.proofs.Restarts.{kept-restarted, watching-restarted}
use Rattle.cdcl.proofs.restart.restart.Goals as goal

pub returns-in-Some-clause-kept : goal.returns-in-Some-clause-kept
returns-in-Some-clause-kept g c =
    kept-restarted c.args.arena.now.clauses c.args.trail.now c.go_back.new.trail c.in-Some.end c.requires.kept c.in-Some.ensures.0 c.go_back.ensures.back c.go_back.ensures.reasoned c.go_back.ensures.vars

pub returns-in-Some-clause-watching : goal.returns-in-Some-clause-watching
returns-in-Some-clause-watching g c =
    watching-restarted c.args.arena.now.clauses c.args.trail.now c.go_back.new.trail c.args.watches.now c.set_head.new.self c.in-Some.end c.requires.kept c.in-Some.ensures.0 c.in-Some.ensures.1
    c.go_back.ensures.back c.go_back.ensures.reasoned c.go_back.ensures.vars c.set_head.ensures.head c.set_head.ensures.lists c.set_head.ensures.pairs c.requires.watching
