use Rattle.std.proofs.Common.{◌≤◌, length, sym, subst, arith}
use Rattle.unwind_calls.proofs.Beginning.{body_fits, own_from, own_there}
use Rattle.unwind_calls.proofs.bodies.begin.Goals as goal

pub kept-requires-clause-order : goal.kept-requires-clause-order
kept-requires-clause-order c =
    let R = c.requires in
    subst (λ n. c.args.callee.now.first ≤ n) (sym c.own_end-end.ensures) (own_from c.args.at.now.pair.now c.args.function c.args.callee.now c.args.body.now R.well R.found R.some)

pub kept-requires-clause-there : goal.kept-requires-clause-there
kept-requires-clause-there c =
    let R = c.requires in
    subst (λ l. c.own_end-end.result ≤ length l) (sym c.as_slice.ensures.value)
    (subst (λ n. n ≤ length c.args.state.now.objects.locals.items) (sym c.own_end-end.ensures) (own_there c.args.at.now.pair.now c.args.function c.args.callee.now c.args.body.now R.well R.found R.some c.args.net.now.terms c.args.state.now.objects R.objects))

pub set_params-requires-clause-there : goal.set_params-requires-clause-there
set_params-requires-clause-there c =
    let R = c.requires in
    let fits = (body_fits c.args.at.now.pair.now c.args.function c.args.callee.now c.args.body.now R.well R.found R.some).0 in
    let count = R.count in
    omega (arith, fits, count)
