use Rattle.std.proofs.Common.{refl}
use Rattle.std.specs.Prelude.{pos}
use Rattle.unrolled.specs.declared.Unrolled.{Unrolled}
use Rattle.unwind_stores.proofs.Answered.{number_made, right_one}
use Rattle.unwind_stores.proofs.operators.right.Goals as goal

pub returns-in_ok-t-in-None : goal.returns-in_ok-t-in-None
returns-in_ok-t-in-None c =
    let net : Unrolled = record { terms = c.literal.new.terms; list = c.args.net.now.list } in
    right_one c.args.at.now c.args.net.now net c.args.state.now c.args.u.now c.args.guard c.in_ok-t-in-None.t c.in-None.is
    (number_made c.args.net.now net c.args.u.now.ty 0 1 c.in_ok-t-in-None.t (λ v. pos 1) refl c.in_ok-t-in-None.ensures)
