use Rattle.std.proofs.Common.{◌∙◌, ap, arith}
use Rattle.c_words.specs.Marks.{number_of}
use Rattle.c_functions.proofs.Declaring.{head_stands, body_goes, definition_goes, definition_makes}
use Rattle.c_functions.proofs.definitions.definition.Goals as goal

pub walk-requires : goal.walk-requires
walk-requires c =
    let g = body_goes c.args.typer.now c.head.new.typer c.note_body.new.typer c.args.names.now c.args.made.now.functions c.args.declared.now c.args.body.now c.in_ok-head.ensures c.note_body.ensures in
    let d = head_stands c.args.typer.now c.note_body.new.typer c.args.names.now c.args.declared.now _ g in
    omega (arith, d, c.requires)

pub returns-clause-goes : goal.returns-clause-goes
returns-clause-goes c =
    let g = body_goes c.args.typer.now c.head.new.typer c.note_body.new.typer c.args.names.now c.args.made.now.functions c.args.declared.now c.args.body.now c.in_ok-head.ensures c.note_body.ensures in
    definition_goes c.args.typer.now c.note_body.new.typer c.walk.new.typer c.args.names.now c.args.made.now.functions c.args.declared.now c.args.body.now g c.in_ok-items.ensures.goes

pub returns-clause-made : goal.returns-clause-made
returns-clause-made c =
    let g = body_goes c.args.typer.now c.head.new.typer c.note_body.new.typer c.args.names.now c.args.made.now.functions c.args.declared.now c.args.body.now c.in_ok-head.ensures c.note_body.ensures in
    definition_makes c.args.typer.now c.note_body.new.typer c.walk.new.typer c.args.names.now c.args.declared.now c.args.body.now _ _ c.args.made.now c.put.new.functions c.append.new.self c.in_ok-props.props
    c.function_number-at.result c.number-first.result c.len-before.result c.in_ok-function.function c.in_ok-items.items g c.in_ok-items.ensures.goes c.function_number-at.ensures (c.number-first.ensures ∙ ap number_of c.len.ensures) c.len-before.ensures c.in_ok-items.ensures.typed c.in_ok-function.ensures
    c.in_ok-props.ensures c.put.ensures c.in_ok-append.ensures
