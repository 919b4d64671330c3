use Rattle.view_expressions.proofs.Viewing.{may_size, viewed}
use Rattle.view_expressions.proofs.values.value.Goals as goal

pub size-requires : goal.size-requires
size-requires c = may_size c.args.signals.now c.args.starts.now c.args.words.now c.args.terms.now c.requires.row c.args.e.now c.args.at.length c.requires

pub returns : goal.returns
returns c =
    viewed c.args.signals.now c.args.starts.now c.args.words.now c.args.terms.now c.requires.row c.len.ensures.proper c.size.new.terms c.args.e.now c.args.at.length c.args.at.signed c.in_ok-t.t.0 c.requires.fits c.in_ok-t.ensures
