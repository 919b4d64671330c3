use Rattle.std.proofs.Common.{refl, map}
use Rattle.v_views.specs.declared.Target.TheVariants as made
use Rattle.elab_names.proofs.Cases.{case_one}
use Rattle.elab_flat.specs.Flat.{flat_target}
use Rattle.elab_flat.proofs.Equations.{target_concatenation}
use Rattle.elab_flat.proofs.target.+parts.Goals as goal

pub flat_target-returns-in_ok-parts-in-Concatenation : goal.flat_target-returns-in_ok-parts-in-Concatenation
flat_target-returns-in_ok-parts-in-Concatenation t c =
    case_one (flat_target c.args.names.now c.args.turns.now) (map (flat_target c.args.names.now c.args.turns.now)) (made.Concatenation c.in-Concatenation.place) _ _ _ _ _ _
    c.in-Concatenation.is c.as_slice.ensures c.in_ok-parts-in-Concatenation.ensures refl (target_concatenation c.args.names.now c.args.turns.now c.in-Concatenation.place _)
