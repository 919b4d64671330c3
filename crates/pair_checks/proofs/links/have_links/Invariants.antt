use Rattle.std.proofs.Common.{◌≡◌, ℕ, ◌<◌}
use Rattle.std.specs.Prelude.{slice_get, Some, IsSome, count_by, eqb}
use Rattle.joint_ir.specs.declared.pair.Link.{Link}
use Rattle.joint_ir.specs.declared.program.Member.{Member}
use Rattle.pair_checks.proofs.links.have_links.Given as goal

abbrev pub invariant-loop-i : goal.invariant-loop-i
invariant-loop-i l = (j : ℕ) (m : Member) → j < l.i → slice_get l.members j ≡ Some m → IsSome m.ty → count_by (λ (link : Link). eqb link.member j) l.links ≡ 1
