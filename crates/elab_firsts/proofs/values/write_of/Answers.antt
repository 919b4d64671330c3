use Rattle.std.proofs.Common.{ap, ◌∙◌}
use Rattle.elab_firsts.specs.Values.{entry_write}
use Rattle.elab_firsts.proofs.values.write_of.Goals as goal

pub returns : goal.returns
returns c = c.in_ok-writes.ensures ∙ ap (entry_write c.args.entry.now c.args.word) c.in_ok-m.ensures
