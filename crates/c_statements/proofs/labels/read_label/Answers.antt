use Rattle.c_statements.proofs.Labelling.{case_label}
use Rattle.c_statements.proofs.labels.read_label.Goals as goal

pub returns-in_ok-c-in-Case : goal.returns-in_ok-c-in-Case
returns-in_ok-c-in-Case c =
    case_label c.args.scopes.now c.args.notes.now c.constant_in.new.notes c.note_twice.new.notes c.args.ty c.args.l.now c.in-Case.place c.in-Case.e c.args.seen.now c.in_ok-c-in-Case.c c.case_of-found.result
    c.in-Case.is c.in_ok-c-in-Case.ensures c.case_of-found.ensures c.note_twice.ensures
