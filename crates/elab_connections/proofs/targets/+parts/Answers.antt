use Rattle.std.proofs.Common.{[], refl, map}
use Rattle.v_views.specs.declared.Target.TheVariants as made
use Rattle.elab_names.specs.Names.{find_in}
use Rattle.elab_names.proofs.Cases.{case_one}
use Rattle.elab_flat.specs.Numbers.{signal_number}
use Rattle.elab_flat.specs.Flat.{flat_which}
use Rattle.elab_connections.specs.Targets.{output_target}
use Rattle.elab_connections.proofs.Equations.{output_select, output_concatenation}
use Rattle.elab_connections.proofs.targets.+parts.Goals as goal

pub output_target-returns-in_ok-parts-in-Concatenation : goal.output_target-returns-in_ok-parts-in-Concatenation
output_target-returns-in_ok-parts-in-Concatenation t c =
    case_one (output_target c.args.names.now) (map (output_target c.args.names.now)) (made.Concatenation c.in-Concatenation.place) _ _ _ _ _ _
    c.in-Concatenation.is c.as_slice.ensures c.in_ok-parts-in-Concatenation.ensures refl (output_concatenation c.args.names.now c.in-Concatenation.place _)

pub output_target-returns-in_ok-s-in-Select : goal.output_target-returns-in_ok-s-in-Select
output_target-returns-in_ok-s-in-Select t c =
    let x = c.in-Select.x in
    case_one (output_target c.args.names.now) (flat_which c.args.names.now []) (made.Signal x.place (signal_number (find_in c.args.names.now x.name))) _ _ _ _ _ _
    c.in-Select.is c.get.ensures c.in_ok-s-in-Select.ensures (cc) (output_select c.args.names.now x _)
