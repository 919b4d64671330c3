use Rattle.std.proofs.Common.{◌≡◌, ◌≤◌, length}
use Rattle.variable_ranks.specs.Games.{ArePlayedFrom}
use Rattle.variable_ranks.proofs.games.play_all.Given as goal

abbrev pub invariant-down : goal.invariant-down
invariant-down l = record {
  one_each : length l.winners.items ≡ length l.present;
  within : l.game ≤ length l.winners.items;
  played : ArePlayedFrom l.numbers l.present l.winners.items l.game;
}

abbrev pub decreases-down : goal.decreases-down
decreases-down l = l.game
