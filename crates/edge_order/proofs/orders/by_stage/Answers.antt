use Rattle.std.proofs.Common.{ap, ◌∙◌, map, rules, ℕ}
use Rattle.std.proofs.lemmas.List.Sorted.{IsNonDecreasingBy-from_sort_by_key}
use Rattle.edge_order.specs.declared.orders.Staged.{Staged}
use Rattle.edge_order.proofs.Staging.{by_stage_is}
use Rattle.edge_order.proofs.orders.by_stage.Goals as goal

pub returns : goal.returns
returns c =
    let stage : Staged → ℕ = λ s. s.stage in
    let old = c.in_ok-staged.staged.items in
    let new = c.sort_by_key.new.self.items in
    by_stage_is c.args.stages.now c.in_ok-order.order.items old new c.in_ok-staged.ensures c.in_ok-sort_by_key.ensures.permutation (IsNonDecreasingBy-from_sort_by_key stage new c.in_ok-sort_by_key.ensures.sorted (λ a r q k. search rules)) (c.in_ok-order.ensures ∙ ap (map (λ (s : Staged). s.node)) c.as_slice.ensures.value)
