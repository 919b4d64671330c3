use Rattle.elab_offences.specs.Rules.{name_offences, bits_offences}
use Rattle.elab_offences.proofs.Noting.{notes_then}
use Rattle.elab_offences.proofs.rules.select.Goals as goal

pub returns : goal.returns
returns c = notes_then (name_offences c.args.turns.now c.args.place c.args.entry.now) (bits_offences c.args.place c.args.entry.now c.args.c) _ _ _ c.name.ensures c.bits.ensures
