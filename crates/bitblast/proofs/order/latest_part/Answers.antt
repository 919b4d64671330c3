use Rattle.std.proofs.Common.{sym, subst}
use Rattle.std.specs.Prelude.{Contains}
use Rattle.word_eqs.specs.Graph.{parts}
use Rattle.bitblast.proofs.order.latest_part.Goals as goal

pub latest_of-requires : goal.latest_of-requires
latest_of-requires c = λ k h. c.requires k (subst (λ n. Contains (parts n) k) (sym c.in-One.is) h)

pub latest_of-requires-in-Two : goal.latest_of-requires-in-Two
latest_of-requires-in-Two c = λ k h. c.requires k (subst (λ n. Contains (parts n) k) (sym c.in-Two.is) h)

pub latest_of-requires-in-Choose : goal.latest_of-requires-in-Choose
latest_of-requires-in-Choose c = λ k h. c.requires k (subst (λ n. Contains (parts n) k) (sym c.in-Choose.is) h)

pub latest_of-requires-in-Resize : goal.latest_of-requires-in-Resize
latest_of-requires-in-Resize c = λ k h. c.requires k (subst (λ n. Contains (parts n) k) (sym c.in-Resize.is) h)

pub latest_of-requires-in-Slice : goal.latest_of-requires-in-Slice
latest_of-requires-in-Slice c = λ k h. c.requires k (subst (λ n. Contains (parts n) k) (sym c.in-Slice.is) h)

pub latest_of-requires-in-Join : goal.latest_of-requires-in-Join
latest_of-requires-in-Join c = λ k h. c.requires k (subst (λ n. Contains (parts n) k) (sym c.in-Join.is) h)
