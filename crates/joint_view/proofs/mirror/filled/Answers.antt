use Rattle.std.proofs.Common.{sym, ◌∙◌, subst}
use Rattle.joint_view.specs.Conditions.{FitSignals}
use Rattle.joint_view.proofs.Rows.{view_fits}
use Rattle.joint_view.proofs.mirror.filled.Goals as goal

pub member_rows-requires-clause-words : goal.member_rows-requires-clause-words
member_rows-requires-clause-words c =
    let m = c.args.pair.now.module in
    subst (λ l. FitSignals m.signals l) (sym (c.as_slice.ensures ∙ c.in_ok-words.ensures.words)) (view_fits m c.args.view.now c.requires.fits.module_.signals c.requires.view)
