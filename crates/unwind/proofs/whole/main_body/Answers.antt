use Rattle.std.proofs.Common.{refl, sym}
use Rattle.joint_ir.specs.WellFormed.{scope_of, places_from, declared_behind}
use Rattle.unwind.proofs.Mains.{main_fits, main_requires, main_made}
use Rattle.unwind.proofs.whole.main_body.Goals as goal

pub stmt-requires : goal.stmt-requires
stmt-requires c =
    main_requires c.args.pair.now c.requires.well c.in-Some.function.now c.in-Some-body.body (sym c.in-Some.ensures.value) c.in-Some-body.is _ c.args.net.now c.args.state.now refl refl c.requires.begins

pub returns-in_ok-_ways-in-Some-body : goal.returns-in_ok-_ways-in-Some-body
returns-in_ok-_ways-in-Some-body c =
    let p = c.args.pair.now in
    let fn = c.in-Some.function.now in
    let body = c.in-Some-body.body in
    let at = sym c.in-Some.ensures.value in
    main_made p c.requires.well fn body at c.in-Some-body.is c.args.bounds.now c.args.net.now c.stmt.new.net c.args.state.now c.stmt.new.state c.in_ok-_ways-in-Some-body._ways
    (declared_behind body.node (places_from fn.first fn.params))
    (c.in_ok-_ways-in-Some-body.ensures (scope_of p.program p.program.main fn) (refl, refl) (main_fits p c.requires.well fn body at c.in-Some-body.is)).does
