use Rattle.std.proofs.Common.{◌+◌, ◌-◌, refl}
use Rattle.sized_terms.proofs.Made.{slice_made}
use Rattle.sized_terms.proofs.slice.Goals as goal

pub returns : goal.returns
returns c =
    slice_made c.args.terms.now c.add.new.self c.in_ok-term.term c.args.a c.args.high c.args.low (c.args.high - c.args.low + 1) refl
    c.in_ok-term.ensures.ok c.in_ok-term.ensures.made c.in_ok-term.ensures.typed c.in_ok-term.ensures.cost c.add.ensures.proper
