use Rattle.sized_terms.proofs.Made.{one_made}
use Rattle.sized_terms.proofs.one.Goals as goal

pub returns : goal.returns
returns c =
    one_made c.args.terms.now c.add.new.self c.in_ok-term.term c.args.op c.args.a c.width.result c.requires.has c.width.ensures.width
    c.in_ok-term.ensures.ok c.in_ok-term.ensures.made c.in_ok-term.ensures.typed c.in_ok-term.ensures.cost c.add.ensures.proper
