use Rattle.std.proofs.Common.{sym, ap, ◌∙◌, subst}
use Rattle.std.specs.Prelude.{◌||◌}
use Rattle.std.proofs.lemmas.Result.{on_ok_weaker}
use Rattle.bit_sets.specs.Sets.{is_in}
use Rattle.v_views.specs.Spots.{spot}
use Rattle.flat_language.proofs.Local.{flat_language}
use Rattle.flat_values.specs.Fits.{shapes_of}
use Rattle.wire_drivers.specs.Wires.{FitsWork, writes_wire, AddsWork}
use Rattle.wire_drivers.proofs.Drivers.{or_none}
use Rattle.wire_drivers.proofs.sets.add_work.Goals as goal

pub add_bits-requires-clause-fits : goal.add_bits-requires-clause-fits
add_bits-requires-clause-fits c = subst (FitsWork c.args.signals.now) c.in-Assign.is c.requires.fits

pub add_bits-requires-in-Connect-clause-fits : goal.add_bits-requires-in-Connect-clause-fits
add_bits-requires-in-Connect-clause-fits c = subst (FitsWork c.args.signals.now) c.in-Connect.is c.requires.fits

pub returns-in-Assign-clause-adds : goal.returns-in-Assign-clause-adds
returns-in-Assign-clause-adds c =
    let l = flat_language (shapes_of c.args.signals.now) in
    on_ok_weaker c.add_bits.result (λ a h k. a h k ∙ ap (λ b. is_in c.args.set.now.items h k || b) (ap (λ w. writes_wire l c.args.extent w (spot h 0 k)) (sym c.in-Assign.is))) c.add_bits.ensures.adds

pub returns-in-Connect-clause-adds : goal.returns-in-Connect-clause-adds
returns-in-Connect-clause-adds c =
    let l = flat_language (shapes_of c.args.signals.now) in
    on_ok_weaker c.add_bits-in-Connect.result (λ a h k. a h k ∙ ap (λ b. is_in c.args.set.now.items h k || b) (ap (λ w. writes_wire l c.args.extent w (spot h 0 k)) (sym c.in-Connect.is))) c.add_bits-in-Connect.ensures.adds

pub returns-in-Comb-clause-adds : goal.returns-in-Comb-clause-adds
returns-in-Comb-clause-adds c =
    let old = c.args.set.now.items in
    subst (λ w. AddsWork (shapes_of c.args.signals.now) c.args.extent w old old) (sym c.in-Comb.is) (λ h k. or_none (is_in old h k))
