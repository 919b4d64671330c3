use Rattle.std.proofs.Common.{◌≡◌, ◌≤◌, length, take}
use Rattle.std.specs.Prelude.{map, reverse}
use Rattle.c_names.specs.Scope.{lookup}
use Rattle.c_names.specs.View.{names_of}
use Rattle.c_names.proofs.scope.Scopes.find.Given as goal

abbrev pub invariant-loop-at : goal.invariant-loop-at
invariant-loop-at l =
    (l.at ≤ length l.self-inside.outer.items)
    × (lookup l.self l.name ≡ lookup (reverse (map names_of (take l.at l.self-inside.outer.items))) l.name)

abbrev pub decreases-loop-at : goal.decreases-loop-at
decreases-loop-at l = l.at
