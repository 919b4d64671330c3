use Rattle.std.proofs.Common.{refl}
use Rattle.elab_declarations.specs.Overrides.{with_given, given_by_name}
use Rattle.elab_declarations.proofs.Walking.{walk_next, walk_end}
use Rattle.elab_declarations.proofs.overrides.constants_by_name.Goals as goal

pub loop-c-preserved : goal.loop-c-preserved
loop-c-preserved c =
    walk_next (with_given c.args.outer.now) (given_by_name c.args.outer.now) (λ x xs s. refl)
    c.args.cs.now c.loop-c.c-index _ _ _ _ _ c.loop-c-test.true c.c-item.is c.loop-c.invariant c.in_ok-add_given.ensures

pub returns : goal.returns
returns c =
    walk_end (with_given c.args.outer.now) (given_by_name c.args.outer.now) (λ x xs s. refl) (λ s. refl)
    c.args.cs.now c.loop-c.c-index _ _ c.loop-c-test.false c.loop-c.invariant
