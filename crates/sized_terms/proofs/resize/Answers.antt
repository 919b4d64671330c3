use Rattle.sized_terms.proofs.Made.{resize_made}
use Rattle.sized_terms.proofs.resize.Goals as goal

pub returns : goal.returns
returns c =
    resize_made c.args.terms.now c.add.new.self c.in_ok-term.term c.args.a c.args.to c.args.signed c.requires.has
    c.in_ok-term.ensures.ok c.in_ok-term.ensures.made c.in_ok-term.ensures.typed c.in_ok-term.ensures.cost c.add.ensures.proper
