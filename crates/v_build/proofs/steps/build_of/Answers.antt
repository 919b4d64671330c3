use Rattle.std.proofs.Common.{reverse}
use Rattle.v_build.proofs.Taking.{tree_lost, tree_taken}
use Rattle.v_build.proofs.steps.build_of.Goals as goal

pub unreachable-requires : goal.unreachable-requires
unreachable-requires c = tree_lost _ (reverse c.in_ok-stack.stack.items) c.requires.builds c.in_ok-stack.ensures c.in-None.ensures

pub returns : goal.returns
returns c = tree_taken _ (reverse c.in_ok-stack.stack.items) (reverse c.take_source.new.stack.items) c.in-Some.tree c.requires.builds c.in_ok-stack.ensures c.in-Some.ensures
