use Rattle.switch_guards.proofs.Bits.{label_none, label_some}
use Rattle.switch_guards.proofs.labels.or_label.Goals as goal

pub returns-in-Default : goal.returns-in-Default
returns-in-Default c = label_none c.args.net.now c.args.ty c.args.value c.args.any c.args.label c.in-Default.is c.len.ensures.proper c.requires.any c.requires.one
