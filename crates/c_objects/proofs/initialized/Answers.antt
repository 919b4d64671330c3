use Rattle.std.proofs.Common.{rules, [], ◌∷◌, ◌∙◌, ap}
use Rattle.std.proofs.lemmas.Int.{to_z-of_z}
use mir.Val.{SFits}
use mir.Syntax.{w128}
use Rattle.c_objects.proofs.Going.{initialized_goes}
use Rattle.c_objects.proofs.initialized.Goals as goal

pub returns : goal.returns
returns c =
    let f : SFits w128 c.in_ok-first.first = search rules in
    initialized_goes c.args.typer.now c.begin.new.self c.initial_value.new.typer c.finish.new.typer c.args.globals.now c.finish.new.globals c.args.common.ty c.args.common.constant c.args.name.now c.args.init.now c.in_ok-first.first _
    c.in_ok-begin.ensures c.in_ok-first.ensures.value c.in_ok-first.ensures.goes c.in_ok-finish.ensures.goes (c.in_ok-firsts.ensures ∙ ap (λ m. m ∷ []) (to_z-of_z w128 c.in_ok-first.first f)) c.in_ok-finish.ensures.globals
