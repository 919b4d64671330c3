use Rattle.std.proofs.Common.{refl}
use Rattle.view_rows.proofs.Viewing.{stored_at}
use Rattle.view_rows.proofs.stores.store.Goals as goal

pub returns-clause-stored : goal.returns-clause-stored
returns-clause-stored c count shape row fits =
    stored_at count shape c.args.starts.now c.args.words.now c.args.terms.now row c.changed.new.terms c.args.part fits c.args.value.0 c.args.guard.0 c.in_ok-t.t.0 _ c.changed.ensures.proper c.requires.value c.requires.width refl c.requires.inside c.in_ok-t.ensures.adds
