use Rattle.std.proofs.Common.{◌/◌, ℕ, arith}
use Rattle.std.proofs.lemmas.List.Edits.{map_over_more}
use Rattle.variable_ranks.proofs.games.divide_each.Goals as goal

pub loop-at-preserved : goal.loop-at-preserved
loop-at-preserved c =
    map_over_more (λ (x : ℕ). x / c.args.by) c.args.numbers.now.items c.loop-at.numbers.items c.loop-at.at c.index_mut.result.now
    (omega (arith, c.loop-at-test.true, c.len-at-end.ensures, c.args.numbers.now.ok.0)) c.loop-at.invariant c.index_mut.ensures.value
