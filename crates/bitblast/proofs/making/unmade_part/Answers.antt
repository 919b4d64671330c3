use Rattle.std.proofs.Common.{sym, subst}
use Rattle.std.specs.Prelude.{Contains}
use Rattle.word_eqs.specs.Graph.{parts}
use Rattle.bitblast.proofs.making.unmade_part.Goals as goal

pub first_unmade-requires : goal.first_unmade-requires
first_unmade-requires c = λ k h. c.requires k (subst (λ n. Contains (parts n) k) (sym c.in-One.is) h)

pub first_unmade-requires-in-Two : goal.first_unmade-requires-in-Two
first_unmade-requires-in-Two c = λ k h. c.requires k (subst (λ n. Contains (parts n) k) (sym c.in-Two.is) h)

pub first_unmade-requires-in-Choose : goal.first_unmade-requires-in-Choose
first_unmade-requires-in-Choose c = λ k h. c.requires k (subst (λ n. Contains (parts n) k) (sym c.in-Choose.is) h)

pub first_unmade-requires-in-Resize : goal.first_unmade-requires-in-Resize
first_unmade-requires-in-Resize c = λ k h. c.requires k (subst (λ n. Contains (parts n) k) (sym c.in-Resize.is) h)

pub first_unmade-requires-in-Slice : goal.first_unmade-requires-in-Slice
first_unmade-requires-in-Slice c = λ k h. c.requires k (subst (λ n. Contains (parts n) k) (sym c.in-Slice.is) h)

pub first_unmade-requires-in-Join : goal.first_unmade-requires-in-Join
first_unmade-requires-in-Join c = λ k h. c.requires k (subst (λ n. Contains (parts n) k) (sym c.in-Join.is) h)
