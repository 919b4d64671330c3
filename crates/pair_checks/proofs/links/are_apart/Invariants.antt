use Rattle.std.proofs.Common.{take}
use Rattle.std.specs.Prelude.{All}
use Rattle.pair_checks.specs.Bound.{IsApart}
use Rattle.pair_checks.proofs.links.are_apart.Given as goal

abbrev pub invariant-loop-link : goal.invariant-loop-link
invariant-loop-link l = All (IsApart l.all) (take l.link-index l.links)
