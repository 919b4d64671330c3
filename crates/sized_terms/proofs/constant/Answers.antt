use Rattle.sized_terms.proofs.Made.{constant_made}
use Rattle.sized_terms.proofs.constant.Goals as goal

pub returns : goal.returns
returns c =
    constant_made c.args.terms.now c.add.new.self c.in_ok-term.term c.from_low_bits.result c.args.width _ c.from_low_bits.ensures.value
    c.in_ok-term.ensures.ok c.in_ok-term.ensures.made c.in_ok-term.ensures.typed c.in_ok-term.ensures.cost c.add.ensures.proper
