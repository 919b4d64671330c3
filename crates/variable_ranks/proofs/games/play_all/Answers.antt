use Rattle.std.proofs.Common.{◌≡◌, ◌-◌, ◌+◌, ◌*◌, List, ℕ, Option, ap, ◌∙◌, arith}
use Rattle.std.proofs.lemmas.List.{length-set}
use Rattle.variable_ranks.specs.Games.{player}
use Rattle.variable_ranks.proofs.Playing.{played-down}
use Rattle.variable_ranks.proofs.games.play_all.Goals as goal

pub down-preserved : goal.down-preserved
down-preserved c =
    let ws = c.down.winners.items in
    let n = length-set ws (c.down.game - 1) c.play.result in record {
      one_each = n ∙ c.down.invariant.one_each;
      within = omega (arith, n, c.down.invariant.within);
      played =
          played-down c.args.numbers.now c.args.present.now ws c.down.game (c.down.game - 1) c.player_at-left.result c.player_at-right.result c.play.result
          (omega (arith, c.down-test.true)) (omega (arith, c.down-test.true, c.down.invariant.within)) (omega (arith, c.down-test.true))
          (c.player_at-left.ensures ∙ ap (λ (w : List (Option ℕ)). player c.args.present.now w (2 * (c.down.game - 1))) c.as_slice.ensures.value)
          (c.player_at-right.ensures ∙ ap (λ (w : List (Option ℕ)). player c.args.present.now w (2 * (c.down.game - 1) + 1)) c.as_slice-in-down.ensures.value)
          c.play.ensures c.down.invariant.played;
    }
