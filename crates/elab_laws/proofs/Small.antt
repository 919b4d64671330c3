-- Small constants, by computation.
use Rattle.std.proofs.Common.{refl}
use Rattle.elab_names.specs.declared.measure.Measured as in_measured
use Rattle.elab_laws.specs.Worked.{WorkedConstants}

pub worked : WorkedConstants
unfolding in_measured.TheBlock.hidden-the_row-Measured-0 denote.Hole.Carrier.hidden
worked = record {
  carry = refl;
  quotient = refl;
  open_sum = refl;
  varying = refl;
  bit_two = refl;
  no_bit = refl;
  copies = refl;
  parts = refl;
}
