use Rattle.std.proofs.Common.{take}
use Rattle.std.specs.Prelude.{All}
use Rattle.joint_ir.specs.WellFormed.{FitsSite}
use Rattle.pair_checks.proofs.modules.are_sites.Given as goal

abbrev pub invariant-loop-site : goal.invariant-loop-site
invariant-loop-site l = All FitsSite (take l.site-index l.sites)
