use Rattle.std.proofs.Common.{◌≡◌, ◌∙◌, ap, sym, List, ℕ, Bool, Option, subst}
use Rattle.variable_ranks.specs.Games.{player}
use Rattle.variable_ranks.proofs.Winning.{best-is}
use Rattle.variable_ranks.proofs.ranks.Ranks.best.Goals as goal

pub returns : goal.returns
returns c =
    best-is c.args.self.now.numbers.items c.args.self.now.present.items c.args.self.now.winners.items (c.args.self.now.one_winner_each ∙ sym c.args.self.now.one_flag_each) c.args.self.now.played c.player_at.result
    (c.player_at.ensures ∙ ap (λ (p : List Bool). player p c.as_slice-2.result.now 1) c.as_slice.ensures.value ∙ ap (λ (w : List (Option ℕ)). player c.args.self.now.present.items w 1) c.as_slice-2.ensures.value)
