use Rattle.std.proofs.Common.{sym, subst}
use Rattle.std.specs.Prelude.{Contains}
use Rattle.word_eqs.specs.Guarded.{act_terms}
use Rattle.bitblast.proofs.order.act_is_early.Goals as goal

pub latest_of-requires : goal.latest_of-requires
latest_of-requires c = λ k h. c.requires k (subst (λ a. Contains (act_terms a) k) (sym c.in-Set.is) h)

pub latest_of-requires-in-Cut : goal.latest_of-requires-in-Cut
latest_of-requires-in-Cut c = λ k h. c.requires k (subst (λ a. Contains (act_terms a) k) (sym c.in-Cut.is) h)

pub latest_of-requires-in-Prop : goal.latest_of-requires-in-Prop
latest_of-requires-in-Prop c = λ k h. c.requires k (subst (λ a. Contains (act_terms a) k) (sym c.in-Prop.is) h)
