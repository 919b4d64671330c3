use Rattle.std.proofs.Common.{arith}
use Rattle.c_functions.proofs.Declaring.{names_goes, names_stand, declaration_goes}
use Rattle.c_functions.proofs.declarations.declaration.Goals as goal

pub leave-requires : goal.leave-requires
leave-requires c =
    let g = names_goes c.args.typer.now c.head.new.typer c.enter.new.self c.parameter_names.new.typer c.args.names.now c.args.declared.now _ c.as_slice.ensures c.in_ok-head.ensures c.in_ok-enter.ensures c.in_ok-parameter_names.ensures in
    let d = names_stand c.args.typer.now c.parameter_names.new.typer c.args.names.now c.args.declared.now _ g in
    omega (arith, d, c.requires)

pub returns : goal.returns
returns c =
    let g = names_goes c.args.typer.now c.head.new.typer c.enter.new.self c.parameter_names.new.typer c.args.names.now c.args.declared.now _ c.as_slice.ensures c.in_ok-head.ensures c.in_ok-enter.ensures c.in_ok-parameter_names.ensures in
    declaration_goes c.args.typer.now c.parameter_names.new.typer c.leave.new.self c.args.names.now c.args.declared.now g c.leave.ensures
