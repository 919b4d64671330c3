use Rattle.elab_offences.specs.Rules.{name_offences, memory_offences}
use Rattle.elab_offences.proofs.Noting.{notes_then}
use Rattle.elab_offences.proofs.rules.whole.Goals as goal

pub returns : goal.returns
returns c = notes_then (name_offences c.args.turns.now c.args.place c.args.entry.now) (memory_offences c.args.place c.args.entry.now) _ _ _ c.name.ensures c.memory.ensures
