use Rattle.std.proofs.Common.{refl}
use Rattle.unwind_simple.proofs.Obtaining.{some_bits, few_bits}
use Rattle.unwind_simple.proofs.Returning.{open_typed, obtained_call}
use Rattle.unwind_simple.proofs.inits.result_value.Goals as goal

pub draw-requires-clause-some : goal.draw-requires-clause-some
draw-requires-clause-some c = some_bits c.in-Some.from (open_typed c.args.at.now c.args.call.now c.in-Some.from c.requires.fits.well c.in-Some.ensures)

pub draw-requires-clause-few : goal.draw-requires-clause-few
draw-requires-clause-few c = few_bits c.in-Some.from (open_typed c.args.at.now c.args.call.now c.in-Some.from c.requires.fits.well c.in-Some.ensures)

pub returns : goal.returns
returns c =
    obtained_call c.args.at.now c.args.net.now c.draw.new.net (record { terms = c.converted.new.terms; list = c.draw.new.net.list }) c.args.state.now c.args.ty c.in-Some.from c.args.call.now c.args.guard c.in_ok-drawn.drawn c.in_ok-t.t _
    (open_typed c.args.at.now c.args.call.now c.in-Some.from c.requires.fits.well c.in-Some.ensures) c.in-Some.ensures c.in_ok-drawn.ensures c.in_ok-t.ensures refl
