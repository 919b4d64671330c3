use Rattle.std.proofs.Common.{◌∙◌, sym, subst}
use Rattle.bit_sets.specs.Sets.{IsWithin}
use Rattle.frame_offences.specs.Drivers.{IsFilled}
use Rattle.frame_offences.proofs.missing.first_missing.Goals as goal

pub first_lacking-requires : goal.first_lacking-requires
first_lacking-requires c = subst (λ n. IsWithin n c.args.wanted.now) (sym (c.as_slice.ensures.len ∙ c.in_ok-table.ensures.len)) c.requires.wanted

pub returns : goal.returns
returns c = c.first_lacking.ensures c.args.sets.now (subst (IsFilled c.args.sets.now) (sym c.as_slice.ensures.value) c.in_ok-table.ensures.filled)
