use Rattle.std.proofs.Common.{◌≡◌, drop}
use Rattle.elab_names.specs.Names.{turn_of}
use Rattle.elab_names.proofs.scope.turn_of.Given as goal

abbrev pub invariant-loop-turn : goal.invariant-loop-turn
invariant-loop-turn l = turn_of l.turns l.integer ≡ turn_of (drop l.turn-index l.turns) l.integer
