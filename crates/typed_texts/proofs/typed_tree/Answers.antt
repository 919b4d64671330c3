use Rattle.typed_texts.proofs.Programs.{has_program}
use Rattle.typed_texts.proofs.typed_tree.Goals as goal

pub returns-in-Ok : goal.returns-in-Ok
returns-in-Ok c = has_program c.args.text.now c.args.tree.now c.in-Ok.program c.requires c.in-Ok.ensures.typed c.in-Ok.ensures.none c.in-Ok.ensures.short c.programs_of_texts_fit.ensures
