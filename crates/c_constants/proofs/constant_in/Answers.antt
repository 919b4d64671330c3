use Rattle.std.proofs.Common.{ap}
use Rattle.c_words.specs.declared.notes.Notes.{Notes}
use Rattle.c_constants.proofs.Telling.{constant_told}
use Rattle.c_constants.proofs.constant_in.Goals as goal

pub returns : goal.returns
returns c =
    constant_told c.args.scopes.now c.args.notes.now c.note_never.new.notes c.args.place c.args.e.now c.in_ok-c.c c.expression.new.notes.first
    (ap (λ (n : Notes). n.first) c.in_ok-_typed.ensures.notes) c.in_ok-c.ensures c.note_never.ensures
