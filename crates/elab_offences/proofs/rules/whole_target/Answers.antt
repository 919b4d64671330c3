use Rattle.elab_offences.specs.Rules.{assigned_offences, memory_offences}
use Rattle.elab_offences.proofs.Noting.{notes_then}
use Rattle.elab_offences.proofs.rules.whole_target.Goals as goal

pub returns : goal.returns
returns c = notes_then (assigned_offences c.args.register c.args.place c.args.entry.now) (memory_offences c.args.place c.args.entry.now) _ _ _ c.assigned.ensures c.memory.ensures
