use Rattle.sized_terms.proofs.Made.{choose_made}
use Rattle.sized_terms.proofs.choose.Goals as goal

pub returns : goal.returns
returns c =
    choose_made c.args.terms.now c.add.new.self c.in_ok-term.term c.args.test c.args.a c.args.b c.requires.first
    c.in_ok-term.ensures.ok c.in_ok-term.ensures.made c.in_ok-term.ensures.typed c.in_ok-term.ensures.cost c.add.ensures.proper
