use Rattle.c_statements.proofs.Labelling.{labels_next}
use Rattle.c_statements.proofs.labels.read_labels.Goals as goal

pub loop-l-preserved : goal.loop-l-preserved
loop-l-preserved c =
    labels_next c.args.scopes.now c.args.notes.now c.loop-l.notes c.read_label.new.notes c.args.ty c.args.labels.now c.loop-l.l-index c.args.seen.now c.loop-l.seen c.loop-l.typed _ c.keep.new.list c.keep-in-loop-l.new.list c.l-item.result c.in_ok-found.found
    c.loop-l-test.true c.l-item.is c.loop-l.invariant c.as_slice.ensures c.in_ok-found.ensures c.in_ok-keep.ensures c.in_ok-keep-2.ensures
