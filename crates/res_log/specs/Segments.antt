-- A log that is checked in segments. Derived clauses may be dead by then.
use Rattle.std.specs.Prelude.{◌≡◌, ℕ, ◌<◌, ◌≤◌, true, List, length, slice_index_or}
use Rattle.clause_arena.specs.Clause.{Clauses}
use Rattle.res_log.specs.Step.{Step}
use Rattle.res_log.specs.Log.{IsSoundStep, has_live_ids}

-- the first n steps are sound over the inputs of the arena and the log
abbrev pub AreSoundBelow : Clauses → List Step → ℕ → Type 0
AreSoundBelow arena log n = (k : ℕ) (d : Step) → k < n → IsSoundStep arena log k (slice_index_or log k d)

-- each id of step k is live, its chain names inputs and clauses of earlier steps and has a result, no earlier step derives its id, and the arena holds that result there
abbrev pub IsLiveStep : Clauses → List Step → ℕ → Step → Type 0
IsLiveStep arena log k s = (has_live_ids arena s ≡ true) × IsSoundStep arena log k s

-- the steps from n up to m are such steps
abbrev pub AreLiveSteps : Clauses → List Step → ℕ → ℕ → Type 0
AreLiveSteps arena log n m = (k : ℕ) (d : Step) → n ≤ k → k < m → IsLiveStep arena log k (slice_index_or log k d)

-- of the steps from n on, step k is the first that is no such step
abbrev pub IsNextBadStep : Clauses → List Step → ℕ → ℕ → Type 0
IsNextBadStep arena log n k =
    (n ≤ k) × (k < length log) × AreLiveSteps arena log n k × ((d : Step) → ¬ IsLiveStep arena log k (slice_index_or log k d))
