use Rattle.std.proofs.Common.{◌≡◌, ◌≤◌, take}
use Rattle.std.specs.Prelude.{count_by, eqb}
use Rattle.joint_ir.specs.declared.pair.Link.{Link}
use Rattle.pair_checks.proofs.links.signal_links.Given as goal

abbrev pub invariant-loop-link : goal.invariant-loop-link
invariant-loop-link l = (l.count ≡ count_by (λ (other : Link). eqb other.signal l.signal) (take l.link-index l.links)) × (l.count ≤ l.link-index)
