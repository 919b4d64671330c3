-- The length of a valid log, by the variables that stand in its inputs.
--
-- A variable stands in a clause that is no tautology in one of three ways: as itself, negated, or not at all. So there are
-- 3 ^ n such clauses over n variables, and the results of a valid log are different ones.
use Rattle.std.specs.Prelude.{◌≡◌, ℕ, ◌-◌, ◌<◌, ◌≤◌, ◌^◌, ◌==◌, ◌&&◌, Bool, true, not, List, length, filter}
use Rattle.std.specs.List.{list_any, list_all}
use Rattle.std.specs.Option.{ForSome}
use Rattle.clause_arena.specs.Clause.{Clause, Clauses, is_tautology}
use Rattle.res_log.specs.Step.{Step}
use Rattle.res_log.specs.Log.{IsValid, input, results}

-- the variable is one of these
abbrev pub is_among : List ℕ → ℕ → Bool
is_among vs v = list_any (λ w. v == w) vs

-- each variable of the clause is one of these
abbrev pub is_over : List ℕ → Clause → Bool
is_over vs c = list_all (λ l. is_among vs l.var) c

-- such a clause, and no tautology
abbrev pub is_plain_over : List ℕ → Clause → Bool
is_plain_over vs c = is_over vs c && not (is_tautology c)

-- each input of the log is a clause over these variables
abbrev pub AreOver : List ℕ → Clauses → List Step → Type 0
AreOver vs arena log = (id : ℕ) → ForSome (input arena log id) (λ c. is_over vs c ≡ true)

-- a valid log over n variables has at most 3 ^ n steps, and at most 3 ^ n - 1 results that aren't empty
abbrev pub LengthByVariables : Type 0
LengthByVariables =
    (arena : Clauses) (log : List Step) (vs : List ℕ) → IsValid arena log → AreOver vs arena log
    → (length log ≤ 3 ^ length vs) × (length (filter (λ c. not (length c == 0)) (results arena log)) ≤ 3 ^ length vs - 1)

-- and fewer than 3 ^ n steps where none of its results is empty
abbrev pub LengthOfOpenLog : Type 0
LengthOfOpenLog =
    (arena : Clauses) (log : List Step) (vs : List ℕ) → IsValid arena log → list_all (λ c. not (length c == 0)) (results arena log) ≡ true
    → AreOver vs arena log → length log < 3 ^ length vs
