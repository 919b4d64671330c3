-- The parts of a binding that fits a pair.
use Rattle.std.specs.Prelude.{◌≡◌, ℕ, List, slice_get, Some, IsSome, count_by, eqb}
use Rattle.joint_ir.specs.declared.pair.Link.{Link}
use Rattle.joint_ir.specs.declared.program.Member.{Member}

-- each member that is no struct has one link
abbrev pub HaveLinks : List Link → List Member → Type 0
HaveLinks links members = (i : ℕ) (m : Member) → slice_get members i ≡ Some m → IsSome m.ty → count_by (λ (link : Link). eqb link.member i) links ≡ 1

-- the links of a signal
abbrev pub signal_links : List Link → (signal : ℕ) → ℕ
signal_links links signal = count_by (λ (other : Link). eqb other.signal signal) links

-- a link is its signal's only one
pub record IsApart (links : List Link) (link : Link) : Type 0 where
  pub one : signal_links links link.signal ≡ 1
