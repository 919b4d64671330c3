use Rattle.std.proofs.Common.{◌≡◌, ◌≤◌, take}
use Rattle.std.specs.Prelude.{count_by, eqb}
use Rattle.joint_ir.specs.declared.pair.Link.{Link}
use Rattle.pair_checks.proofs.links.member_links.Given as goal

abbrev pub invariant-loop-link : goal.invariant-loop-link
invariant-loop-link l = (l.count ≡ count_by (λ (link : Link). eqb link.member l.member) (take l.link-index l.links)) × (l.count ≤ l.link-index)
