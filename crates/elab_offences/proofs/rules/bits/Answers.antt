use Rattle.std.proofs.Common.{ap, ◌∙◌}
use Rattle.offence_order.specs.Order.{first_of}
use Rattle.elab_offences.specs.Rules.{memory_part_offences, part_offences, range_of}
use Rattle.elab_offences.proofs.Noting.{notes_then}
use Rattle.elab_offences.proofs.rules.bits.Goals as goal

pub returns : goal.returns
returns c = notes_then (memory_part_offences c.args.place c.args.entry.now c.args.c) (part_offences c.args.place (range_of c.args.entry.now) c.args.c) _ _ _ c.memory_part.ensures (c.part.ensures ∙ ap (λ r. first_of c.memory_part.new.first.found (part_offences c.args.place r c.args.c)) c.range_of.ensures)
