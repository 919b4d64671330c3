use Rattle.c_types.proofs.Judging.{judged_typed, judged_none, judged_refused, judged_short}
use Rattle.c_types.proofs.typed.Goals as goal

pub returns-in-Ok-clause-typed : goal.returns-in-Ok-clause-typed
returns-in-Ok-clause-typed c = judged_typed c.args.tree.now c.in-Ok.typed c.judged.result c.in-Ok.ensures c.judged.ensures

pub returns-in-Ok-clause-none : goal.returns-in-Ok-clause-none
returns-in-Ok-clause-none c = judged_none c.args.tree.now c.in-Ok.typed c.judged.result c.in-Ok.ensures c.judged.ensures

pub returns-in-Ok-clause-refused : goal.returns-in-Ok-clause-refused
returns-in-Ok-clause-refused c = judged_refused c.args.tree.now c.in-Ok.typed c.judged.result c.in-Ok.ensures c.judged.ensures

pub returns-in-Ok-clause-short : goal.returns-in-Ok-clause-short
returns-in-Ok-clause-short c = judged_short c.in-Ok.typed c.judged.result c.judged.ensures
