use Rattle.std.proofs.Common.{◌-◌, refl, sym, ap, subst}
use Rattle.flat_bits.specs.Selections.{FitsSelection}
use Rattle.flat_tree.specs.Values.{Shape}
use Rattle.target_parts.specs.Places.{IsSelected}
use Rattle.target_parts.proofs.Selecting.{whole_selected, part_selected}
use Rattle.target_parts.proofs.targets.selected.Goals as goal
use Rattle.view_rows.specs.declared.stores.Part.{Part}

pub returns-in-Whole : goal.returns-in-Whole
returns-in-Whole c shapes e =
    let s = c.args.signal.now in
    let p : Part = record { signal = c.args.g; word = 0; high = s.bits - 1; low = 0 } in
    subst (λ x. IsSelected shapes c.args.g x p) (sym c.in-Whole.is) (whole_selected shapes c.args.g s.bits (s.bits - 1) (ap (λ (x : Shape). x.bits) e) c.requires.some c.requires.bits refl)

pub returns-in-Part : goal.returns-in-Part
returns-in-Part c shapes e =
    let s = c.args.signal.now in
    let p : Part = record { signal = c.args.g; word = 0; high = c.in-Part.high - s.low; low = c.in-Part.end - s.low } in
    let f = subst (FitsSelection s) c.in-Part.is c.requires.fits in
    subst (λ x. IsSelected shapes c.args.g x p) (sym c.in-Part.is)
    (part_selected shapes c.args.g s.bits s.low c.in-Part.high c.in-Part.end (c.in-Part.high - s.low) (c.in-Part.end - s.low) (ap (λ (x : Shape). x.bits) e) c.requires.bits (ap (λ (x : Shape). x.low) e) f.0 f.1 f.2 refl refl)
