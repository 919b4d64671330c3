use Rattle.std.proofs.Common.{refl}
use Rattle.std.specs.Prelude.{flat_map}
use Rattle.elab_declarations.specs.Overrides.{names_in, numbered}
use Rattle.elab_declarations.proofs.Walking.{walk_next, walk_end}
use Rattle.elab_declarations.proofs.Numbering.{numbered_append}
use Rattle.elab_declarations.proofs.overrides.add_declarations.Goals as goal

pub loop-d-preserved : goal.loop-d-preserved
loop-d-preserved c =
    walk_next (λ x s. numbered s (names_in x)) (λ xs s. numbered s (flat_map names_in xs)) (λ x xs s. numbered_append s (names_in x) (flat_map names_in xs))
    c.args.declarations.now c.loop-d.d-index _ _ _ _ _ c.loop-d-test.true c.d-item.is c.loop-d.invariant c.in_ok-add_declaration.ensures

pub returns : goal.returns
returns c =
    walk_end (λ x s. numbered s (names_in x)) (λ xs s. numbered s (flat_map names_in xs)) (λ x xs s. numbered_append s (names_in x) (flat_map names_in xs)) (λ s. refl)
    c.args.declarations.now c.loop-d.d-index _ _ c.loop-d-test.false c.loop-d.invariant
