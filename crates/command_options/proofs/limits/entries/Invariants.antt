use Rattle.std.proofs.Common.{◌≡◌, ◌==◌, length}
use denote.Text.{Utf8}
use denote.Shadow.{shadow}
use Rattle.std.specs.List.{slice_split}
use Rattle.command_options.specs.Limits.{entries_of}
use Rattle.command_options.proofs.Entries.{after}
use Rattle.command_options.proofs.limits.entries.Given as goal

abbrev pub invariant-pieces : goal.invariant-pieces
invariant-pieces l =
    shadow (Utf8 l.rest) × (entries_of (slice_split (λ b. b == 44) l.fn.text) ≡ after l.list (entries_of (slice_split (λ b. b == 44) l.rest)))

abbrev pub decreases-pieces : goal.decreases-pieces
decreases-pieces l = length l.rest
