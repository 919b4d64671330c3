use Rattle.std.proofs.Common.{refl, map}
use Rattle.elab_declarations.specs.Overrides.{name_of, with_number, numbered}
use Rattle.elab_declarations.proofs.Walking.{walk_next, walk_end}
use Rattle.elab_declarations.proofs.overrides.add_each.Goals as goal

pub loop-p-preserved : goal.loop-p-preserved
loop-p-preserved c =
    walk_next (λ p s. with_number s (name_of p)) (λ ps s. numbered s (map name_of ps)) (λ x xs s. refl)
    c.args.parameters.now c.loop-p.p-index _ _ _ _ _ c.loop-p-test.true c.p-item.is c.loop-p.invariant c.in_ok-add_name.ensures

pub returns : goal.returns
returns c =
    walk_end (λ p s. with_number s (name_of p)) (λ ps s. numbered s (map name_of ps)) (λ x xs s. refl) (λ s. refl)
    c.args.parameters.now c.loop-p.p-index _ _ c.loop-p-test.false c.loop-p.invariant
