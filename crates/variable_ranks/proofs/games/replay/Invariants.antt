use Rattle.std.proofs.Common.{◌≡◌, ◌<◌, length}
use Rattle.variable_ranks.specs.Games.{ArePlayedBut}
use Rattle.variable_ranks.proofs.games.replay.Given as goal

abbrev pub invariant-up : goal.invariant-up
invariant-up l = record {
  one_each : length l.winners.items ≡ length l.present;
  within : l.game < length l.winners.items;
  played : ArePlayedBut l.numbers l.present l.winners.items l.game;
}

abbrev pub decreases-up : goal.decreases-up
decreases-up l = l.game
