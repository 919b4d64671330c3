use Rattle.std.proofs.Common.{rules, [], ◌∷◌, ◌++◌, ◌∙◌, ap}
use Rattle.std.proofs.lemmas.Int.{to_z-of_z}
use mir.Val.{SFits}
use mir.Syntax.{w128}
use Rattle.c_objects.proofs.Elements.{values_next}
use Rattle.c_objects.proofs.values.elements.Goals as goal

pub loop-e-preserved : goal.loop-e-preserved
loop-e-preserved c =
    let f : SFits w128 c.in_ok-n.n = search rules in
    values_next c.args.scopes.now c.args.notes.now c.loop-e.notes c.constant.new.notes c.args.ty c.args.es.now c.loop-e.e-index c.loop-e.values c.push.new.values c.e-item.result c.in_ok-n.n
    c.loop-e-test.true c.e-item.is c.loop-e.invariant c.in_ok-n.ensures (c.in_ok-push.ensures ∙ ap (λ m. c.loop-e.values ++ m ∷ []) (to_z-of_z w128 c.in_ok-n.n f))
