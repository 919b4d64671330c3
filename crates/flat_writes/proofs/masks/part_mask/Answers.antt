use Rattle.std.proofs.Common.{◌∙◌, ap}
use Rattle.flat_tree.specs.Values.{Shape}
use Rattle.flat_writes.proofs.MaskLemmas.{masked, varying_none, varying_all}
use Rattle.flat_writes.proofs.masks.part_mask.Goals as goal

pub returns-in-Mask : goal.returns-in-Mask
returns-in-Mask c shapes g k e I = masked shapes c.args.extent g c.in-Mask.mask k c.args.selection.now (c.in-Mask.ensures shapes g e I)

pub returns-in-Certain : goal.returns-in-Certain
returns-in-Certain c shapes g k e I = varying_none shapes c.args.extent g k c.args.selection.now c.in-Certain.is (c.in-Varying.ensures shapes g e I)

pub returns-in-Any : goal.returns-in-Any
returns-in-Any c shapes g k e I =
    varying_all shapes c.args.extent g c.full.result k c.args.signal.now.bits c.args.selection.now c.in-Any.is (c.in-Varying.ensures shapes g e I) (ap (λ (s : Shape). s.words) e ∙ c.requires.vector) (ap (λ (s : Shape). s.bits) e) (c.full.ensures k)
