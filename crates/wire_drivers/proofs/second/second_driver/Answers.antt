use Rattle.std.proofs.Common.{sym, subst}
use Rattle.std.proofs.lemmas.Result.{IfOk-weaker}
use Rattle.flat_values.specs.Fits.{shapes_of}
use Rattle.flat_writes.specs.declared.masks.Extent.TheVariants.{Any}
use Rattle.frame_offences.specs.Drivers.{IsSecond}
use Rattle.wire_drivers.specs.Wires.{AreSetsOf, IsSecondDriver}
use Rattle.wire_drivers.proofs.Drivers.{second_is}
use Rattle.wire_drivers.proofs.second.second_driver.Goals as goal

pub returns : goal.returns
returns c =
    let shapes = shapes_of c.args.signals.now in
    let drivers = c.args.drivers.now in
    let sets = c.as_slice.result.now in
    let are = subst (AreSetsOf shapes Any drivers) (sym c.as_slice.ensures.value) c.in_ok-sets.ensures.sets in
    IfOk-weaker c.second_writer.result (IsSecond sets) (IsSecondDriver shapes drivers) (second_is shapes drivers sets are) c.second_writer.ensures
