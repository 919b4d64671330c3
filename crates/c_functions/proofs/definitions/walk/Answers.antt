use Rattle.std.proofs.Common.{arith}
use Rattle.c_functions.proofs.Params.{inside_goes, inside_depth, items_stand, function_goes}
use Rattle.c_functions.proofs.definitions.walk.Goals as goal

pub items-requires : goal.items-requires
items-requires c =
    let g = inside_goes c.args.typer.now c.enter.new.self c.own.new.self c.params.new.typer c.args.head.now _ c.as_slice.ensures c.in_ok-enter.ensures c.in_ok-own.ensures.goes c.in_ok-params.ensures in
    let d = inside_depth c.args.typer.now c.params.new.typer c.args.head.now _ g in
    omega (arith, d)

pub leave-requires : goal.leave-requires
leave-requires c =
    let g = inside_goes c.args.typer.now c.enter.new.self c.own.new.self c.params.new.typer c.args.head.now _ c.as_slice.ensures c.in_ok-enter.ensures c.in_ok-own.ensures.goes c.in_ok-params.ensures in
    let d = inside_depth c.args.typer.now c.params.new.typer c.args.head.now _ g in
    let e = items_stand c.params.new.typer c.items.new.self _ _ _ c.in_ok-ts.ensures in
    omega (arith, d, e, c.requires)

pub returns-clause-goes : goal.returns-clause-goes
returns-clause-goes c =
    let g = inside_goes c.args.typer.now c.enter.new.self c.own.new.self c.params.new.typer c.args.head.now _ c.as_slice.ensures c.in_ok-enter.ensures c.in_ok-own.ensures.goes c.in_ok-params.ensures in
    function_goes c.args.typer.now c.params.new.typer c.items.new.self c.leave.new.self c.args.head.now c.args.body.now _ _ _ c.as_slice-2.ensures c.around_of.ensures g c.in_ok-ts.ensures c.leave.ensures
