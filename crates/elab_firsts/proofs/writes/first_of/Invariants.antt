use Rattle.std.proofs.Common.{◌≡◌, drop}
use Rattle.std.specs.Option.{option_or}
use Rattle.elab_firsts.specs.Writes.{first_of}
use Rattle.elab_firsts.proofs.writes.first_of.Given as goal

-- what comes later holds before what was found
abbrev pub invariant-loop-w : goal.invariant-loop-w
invariant-loop-w l = first_of l.writes l.signal l.word ≡ option_or (first_of (drop l.w-index l.writes) l.signal l.word) l.found
