use Rattle.std.proofs.Common.{sym, ◌∙◌}
use Rattle.unwind_simple.proofs.Returning.{own_typed, value_obtains, done_value}
use Rattle.unwind_simple.proofs.returns.give_value.Goals as goal

pub init_value-requires-clause-fits : goal.init_value-requires-clause-fits
init_value-requires-clause-fits c =
    value_obtains c.args.at.now c.args.net.now c.args.state.now c.in-Some.ty c.args.init.now c.args.guard (sym c.own_result.ensures ∙ c.in-Some.is) c.requires

pub init_value-requires-clause-ty : goal.init_value-requires-clause-ty
init_value-requires-clause-ty c = own_typed c.args.at.now c.in-Some.ty c.requires.well (sym c.own_result.ensures ∙ c.in-Some.is)

pub returns : goal.returns
returns c =
    λ d inside fits.
    done_value c.args.at.now c.args.net.now c.init_value.new.net c.chosen.new.net c.args.state.now c.in-Some.ty c.args.init.now c.args.guard c.in_ok-t.t c.in_ok-state.field-0 c.only.result c.only.ensures (sym c.own_result.ensures ∙ c.in-Some.is) c.requires
    c.in_ok-t.ensures c.in_ok-state.ensures d inside fits
