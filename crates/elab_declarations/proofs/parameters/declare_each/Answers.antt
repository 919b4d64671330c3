use Rattle.std.proofs.Common.{refl, ap, ◌∙◌}
use Rattle.elab_declarations.specs.Overrides.{given_for}
use Rattle.elab_declarations.specs.Parameters.{with_parameter, with_parameters}
use Rattle.elab_declarations.proofs.Walking.{walk_next, walk_end}
use Rattle.elab_declarations.proofs.parameters.declare_each.Goals as goal

pub loop-p-preserved : goal.loop-p-preserved
loop-p-preserved c =
    walk_next (λ p. with_parameter c.args.form (given_for c.args.overrides.now p.name.name) p) (with_parameters c.args.overrides.now c.args.form) (λ x xs s. refl)
    c.args.parameters.now c.loop-p.p-index _ _ _ _ _ c.loop-p-test.true c.p-item.is c.loop-p.invariant
    (c.in_ok-declare_parameter.ensures ∙ ap (λ g. with_parameter c.args.form g c.p-item.result c.loop-p.names) c.given_for-given.ensures)

pub returns : goal.returns
returns c =
    walk_end (λ p. with_parameter c.args.form (given_for c.args.overrides.now p.name.name) p) (with_parameters c.args.overrides.now c.args.form) (λ x xs s. refl)
    (λ s. refl) c.args.parameters.now c.loop-p.p-index _ _ c.loop-p-test.false c.loop-p.invariant
