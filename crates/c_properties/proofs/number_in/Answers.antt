use Rattle.c_properties.proofs.Counting.{less, counted_between}
use Rattle.c_properties.proofs.number_in.Goals as goal

pub overflow_sub-before : goal.overflow_sub-before
overflow_sub-before c = less c.args.site c.args.keys.now _ _ (rw c.key.ensures.key at c.below-before.ensures.count) (rw c.floor.ensures at c.below-of_other_kinds.ensures.count)

pub returns : goal.returns
returns c = counted_between c.args.site c.args.keys.now _ _ _ (rw c.key.ensures.key at c.below-before.ensures.count) (rw c.floor.ensures at c.below-of_other_kinds.ensures.count) c.number.ensures
