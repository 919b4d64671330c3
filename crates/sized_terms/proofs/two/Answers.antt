use Rattle.sized_terms.proofs.Made.{two_made}
use Rattle.sized_terms.proofs.two.Goals as goal

pub returns : goal.returns
returns c =
    two_made c.args.terms.now c.add.new.self c.in_ok-term.term c.args.op c.args.a c.args.b c.width.result c.requires.first c.width.ensures.width
    c.in_ok-term.ensures.ok c.in_ok-term.ensures.made c.in_ok-term.ensures.typed c.in_ok-term.ensures.cost c.add.ensures.proper
