use Rattle.std.proofs.Common.{length, ap, sym, subst, ◌∙◌}
use Rattle.std.proofs.lemmas.Result.{IfOk-weaker}
use Rattle.flat_values.specs.Fits.{shapes_of}
use Rattle.flat_writes.specs.declared.masks.Extent.TheVariants.{Certain}
use Rattle.frame_offences.specs.Drivers.{IsMissing}
use Rattle.wire_drivers.specs.Wires.{AreSetsOf}
use Rattle.wire_drivers.specs.Undriven.{AreMasks, IsFirstUndriven}
use Rattle.wire_drivers.proofs.Masks.{undriven_is}
use Rattle.wire_drivers.proofs.undriven.undriven_wire.Goals as goal

pub returns : goal.returns
returns c =
    let signals = c.args.signals.now in
    let drivers = c.args.drivers.now in
    let masks = c.as_slice.result.now in
    let sets = c.as_slice-2.result.now in
    let are = subst (AreMasks signals) (sym c.as_slice.ensures.value) c.in_ok-wires.ensures.masks in
    let of = subst (AreSetsOf (shapes_of signals) Certain drivers) (sym c.as_slice-2.ensures.value) c.in_ok-sets.ensures.sets in
    IfOk-weaker c.first_missing.result (IsMissing masks sets) (IsFirstUndriven signals drivers)
    (undriven_is signals drivers masks sets are of (ap length c.as_slice.ensures.value ∙ c.in_ok-wires.ensures.len))
    c.first_missing.ensures
