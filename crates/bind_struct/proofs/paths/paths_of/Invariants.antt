use Rattle.std.proofs.Common.{◌≡◌, ◌≤◌, length, drop}
use Rattle.bind_struct.specs.Paths.{named, instance_paths, signal_paths}
use Rattle.bind_struct.proofs.paths.paths_of.Given as goal

abbrev pub invariant-loop-i : goal.invariant-loop-i
invariant-loop-i l = (l.i ≤ length l.instances) × (named l.paths ≡ instance_paths (drop l.i l.instances))

abbrev pub decreases-loop-i : goal.decreases-loop-i
decreases-loop-i l = l.i

abbrev pub invariant-loop-i-2 : goal.invariant-loop-i-2
invariant-loop-i-2 l = (l.i ≤ length l.signals) × (named l.paths ≡ signal_paths l.i (drop l.i l.signals) (instance_paths l.flat.instances))

abbrev pub decreases-loop-i-2 : goal.decreases-loop-i-2
decreases-loop-i-2 l = l.i
