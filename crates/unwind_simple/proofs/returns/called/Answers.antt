use Rattle.joint_ir.specs.WellFormed.{Scope, FitsCall}
use Rattle.unwind_simple.proofs.Obtaining.{some_bits, few_bits}
use Rattle.unwind_simple.proofs.Returning.{open_typed, done_call}
use Rattle.unwind_simple.proofs.returns.called.Goals as goal

pub draw-requires-clause-some : goal.draw-requires-clause-some
draw-requires-clause-some c = some_bits c.in-Some.ty (open_typed c.args.at.now c.args.call.now c.in-Some.ty c.requires.well c.in-Some.ensures)

pub draw-requires-clause-few : goal.draw-requires-clause-few
draw-requires-clause-few c = few_bits c.in-Some.ty (open_typed c.args.at.now c.args.call.now c.in-Some.ty c.requires.well c.in-Some.ensures)

pub returns : goal.returns
returns c =
    λ d inside.
    done_call c.args.at.now c.args.net.now c.draw.new.net c.args.state.now c.in-Some.ty c.args.call.now c.args.guard c.in_ok-draw.field-0 c.only.result (λ (e : Scope). FitsCall e c.args.call.now) c.only.ensures c.requires c.in-Some.ensures c.in_ok-draw.ensures d inside
