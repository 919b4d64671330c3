use Rattle.std.proofs.Common.{take}
use Rattle.std.specs.Prelude.{All}
use Rattle.joint_ir.specs.WellFormed.{FitsLink}
use Rattle.pair_checks.proofs.links.are_links.Given as goal

abbrev pub invariant-loop-link : goal.invariant-loop-link
invariant-loop-link l = All (FitsLink l.pair) (take l.link-index l.links)
