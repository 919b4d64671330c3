use Rattle.std.proofs.Common.{List, Bool, ◌<◌, sym, subst}
use Rattle.variable_ranks.proofs.Counts.{count, fewer}
use Rattle.cdcl.proofs.activity.ActivityChooserChooser.pick.Goals as goal

pub taken-smaller : goal.taken-smaller
taken-smaller c =
    subst (λ (bs : List Bool). count bs < count c.taken.self.ranks.present.items) (sym c.take.ensures.taken)
    (fewer c.taken.self.ranks.present.items c.in-Some.var c.in-Some.ensures.0)
