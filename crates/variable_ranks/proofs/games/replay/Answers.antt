use Rattle.std.proofs.Common.{◌≡◌, ◌+◌, ◌*◌, ◌/◌, List, ℕ, Option, ap, ◌∙◌, arith}
use Rattle.std.proofs.lemmas.List.{length-set}
use Rattle.variable_ranks.specs.Games.{player}
use Rattle.variable_ranks.proofs.Playing.{replayed, played-still}
use Rattle.variable_ranks.proofs.games.replay.Goals as goal

pub returns-then-is_same-clause-played : goal.returns-then-is_same-clause-played
returns-then-is_same-clause-played c =
    played-still c.args.numbers.now c.args.present.now c.up.winners.items c.up.game c.player_at-left.result c.player_at-right.result c.play-won.result c.index.result.now
    c.up.invariant.within
    (c.player_at-left.ensures ∙ ap (λ (w : List (Option ℕ)). player c.args.present.now w (2 * c.up.game)) c.as_slice.ensures.value)
    (c.player_at-right.ensures ∙ ap (λ (w : List (Option ℕ)). player c.args.present.now w (2 * c.up.game + 1)) c.as_slice-in-up.ensures.value)
    c.play-won.ensures (c.is_same.ensures c.if-is_same.true) c.index.ensures c.up.invariant.played

pub up-preserved : goal.up-preserved
up-preserved c =
    let ws = c.up.winners.items in
    let n = length-set ws c.up.game c.play-won.result in record {
      one_each = n ∙ c.up.invariant.one_each;
      within = omega (arith, n, c.up.invariant.within);
      played =
          replayed c.args.numbers.now c.args.present.now ws c.up.game c.player_at-left.result c.player_at-right.result c.play-won.result
          c.up-test.true c.up.invariant.within
          (c.player_at-left.ensures ∙ ap (λ (w : List (Option ℕ)). player c.args.present.now w (2 * c.up.game)) c.as_slice.ensures.value)
          (c.player_at-right.ensures ∙ ap (λ (w : List (Option ℕ)). player c.args.present.now w (2 * c.up.game + 1)) c.as_slice-in-up.ensures.value)
          c.play-won.ensures c.up.invariant.played;
    }
