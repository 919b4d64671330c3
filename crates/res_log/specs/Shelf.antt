-- A step looked at through the arena alone, which holds the results of the steps that were found right.
use Rattle.std.specs.Prelude.{ℕ, Bool, false, ◌&&◌, ◌||◌, not, List, [], take, map, None, if◌then◌else◌}
use Rattle.std.specs.List.{list_all}
use Rattle.std.specs.Option.{unwrap_or, option_map_or}
use Rattle.clause_arena.specs.Clause.{Clause, Clauses, clause_at, is_same}
use Rattle.res_log.specs.Step.{Step}
use Rattle.res_log.specs.Log.{Book, derives, result_of, has_live_ids}

-- the id is an input, or derived before step k
abbrev pub is_known : List Step → ℕ → ℕ → Bool
is_known log k id = derives (take k log) id || not (derives log id)

-- the clauses that the arena has at ids known at step k
abbrev pub shelf : Clauses → List Step → ℕ → Book
shelf arena log k id = if is_known log k id then clause_at arena id else None

-- the clause of an id, and the empty list where it has none
abbrev pub lits_at : Clauses → ℕ → Clause
lits_at arena id = unwrap_or (clause_at arena id) []

-- the arena has no list of the same set at an id that the steps derive
abbrev pub is_new : Clauses → List Step → ℕ → Bool
is_new arena steps id = list_all (λ t. not (is_same (lits_at arena id) (lits_at arena t.derived.0))) steps

-- the step is sound, and its ids are live
abbrev pub live_test : Clauses → List Step → ℕ → Step → Bool
live_test arena log k s =
    has_live_ids arena s && not (derives (take k log) s.derived.0)
    && option_map_or (λ r. is_same r (lits_at arena s.derived.0)) (result_of (shelf arena log k) s) false

-- the step breaks no rule
abbrev pub step_test : Clauses → List Step → ℕ → Step → Bool
step_test arena log k s = live_test arena log k s && is_new arena (take k log) s.derived.0

-- the arena's lists at the ids that the steps derive
abbrev pub lists : Clauses → List Step → List Clause
lists arena steps = map (λ t. lits_at arena t.derived.0) steps
