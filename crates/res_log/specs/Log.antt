-- What a log of resolution steps derives, and when it is sound and valid.
--
-- A step is a chain: a first clause that is resolved with other clauses in turn, as in the traces of
-- tracecheck (A. Biere, PicoSAT Essentials, Journal on Satisfiability, Boolean Modeling and
-- Computation 4, 2008) and in trivial resolution (P. Beame, H. Kautz and A. Sabharwal, Towards
-- understanding and harnessing the potential of clause learning, JAIR 22, 2004). Clauses are read as
-- sets of literals throughout.
use Rattle.std.specs.Prelude.{◌≡◌, ℕ, ◌-◌, ◌<◌, ◌≤◌, ◌^◌, Bool, true, false, ◌==◌, ◌&&◌, not, List, [], ◌∷◌, ◌++◌, length, take, filter, Option, Some, None, if◌then◌else◌, slice_index_or}
use Rattle.std.specs.List.{list_any, list_all}
use Rattle.std.specs.Option.{option_and_then, option_to_list, ForSome, IsSomeAnd, is_some}
use Rattle.clause_arena.specs.Clause.{Clause, Clauses, clause_at, resolve, is_same, satisfies, AreDifferent, is_below}
use Rattle.res_log.specs.declared.ChainStep.{ChainStep}
use Rattle.res_log.specs.Step.{Step}

-- the clause of each id that has one
abbrev pub Book : Type 0
Book = ℕ → Option Clause

-- the clause resolved with the clauses of the chain in turn
abbrev pub chain : Book → List ChainStep → Clause → Option Clause
chain book [] c = Some c
chain book (x ∷ xs) c = option_and_then (λ d. option_and_then (chain book xs) (resolve c d x.pivot)) (book x.clause.0)

-- the result of a chain of at least two clauses
abbrev pub result_of : Book → Step → Option Clause
result_of book s = option_and_then (chain book s.rest) (if length s.rest == 0 then None else book s.first.0)

-- some step derives the id
abbrev pub derives : List Step → ℕ → Bool
derives log id = list_any (λ s. s.derived.0 == id) log

-- the inputs: the clauses whose ids no step derives
abbrev pub input : Clauses → List Step → Book
input arena log id = if derives log id then None else clause_at arena id

-- the book once the step's result is entered under its id
abbrev pub enter : Book → Step → Book
enter book s id = if s.derived.0 == id then result_of book s else book id

-- the book once the results of all these steps are entered, in order
abbrev pub enter_all : Book → List Step → Book
enter_all book [] = book
enter_all book (s ∷ ss) = enter_all (enter book s) ss

-- the clauses of the inputs and of the first k steps
abbrev pub book_before : Clauses → List Step → ℕ → Book
book_before arena log k = enter_all (input arena log) (take k log)

-- the results of the steps in turn
abbrev pub results_from : Book → List Step → List Clause
results_from book [] = []
results_from book (s ∷ ss) = option_to_list (result_of book s) ++ results_from (enter book s) ss

-- the results of all steps of a log, from its inputs on
abbrev pub results : Clauses → List Step → List Clause
results arena log = results_from (input arena log) log

-- Step k derives an id of the arena that no step before it derives. Its chain has a result, and where
-- the id is live the arena has just that set there.
abbrev pub IsSoundStep : Clauses → List Step → ℕ → Step → Type 0
IsSoundStep arena log k s =
    (derives (take k log) s.derived.0 ≡ false) × (s.derived.0 < length arena)
    × IsSomeAnd (result_of (book_before arena log k) s) (λ r. ForSome (clause_at arena s.derived.0) (λ c. is_same r c ≡ true))

-- each step is sound, by the inputs and the chains alone
abbrev pub IsSound : Clauses → List Step → Type 0
IsSound arena log = (k : ℕ) (d : Step) → k < length log → IsSoundStep arena log k (slice_index_or log k d)

-- sound, and no two results are the same set
abbrev pub IsValid : Clauses → List Step → Type 0
IsValid arena log = IsSound arena log × AreDifferent (results arena log)

-- the last result is the empty clause, or there is no step and an input is empty
abbrev pub EndsEmpty : Clauses → List Step → Type 0
EndsEmpty arena [] = (id : ℕ) × (clause_at arena id ≡ Some [])
EndsEmpty arena (s ∷ ss) =
    (d : Step) → result_of (book_before arena (s ∷ ss) (length ss)) (slice_index_or (s ∷ ss) (length ss) d) ≡ Some []

-- the values satisfy each input
abbrev pub SatisfiesInputs : Clauses → List Step → (ℕ → Bool) → Type 0
SatisfiesInputs arena log a = (id : ℕ) → ForSome (input arena log id) (λ c. satisfies a c ≡ true)

-- inputs with a sound log that ends empty have no model
abbrev pub RefutationLaw : Type 0
RefutationLaw =
    (arena : Clauses) (log : List Step) → IsSound arena log → EndsEmpty arena log
    → (a : ℕ → Bool) → SatisfiesInputs arena log a → false ≡ true

-- a valid log over n variables has at most 3 ^ n steps, and at most 3 ^ n - 1 results that aren't empty
abbrev pub LengthLaw : Type 0
LengthLaw =
    (arena : Clauses) (log : List Step) (n : ℕ) → IsValid arena log
    → ((id : ℕ) → ForSome (input arena log id) (λ c. is_below n c ≡ true))
    → (length log ≤ 3 ^ n) × (length (filter (λ c. not (length c == 0)) (results arena log)) ≤ 3 ^ n - 1)

-- each id of the step is live
abbrev pub has_live_ids : Clauses → Step → Bool
has_live_ids arena s =
    is_some (clause_at arena s.derived.0) && is_some (clause_at arena s.first.0)
    && list_all (λ x. is_some (clause_at arena x.clause.0)) s.rest

-- each step of the log names live ids alone
abbrev pub AreLive : Clauses → List Step → Type 0
AreLive arena log = (k : ℕ) (d : Step) → k < length log → has_live_ids arena (slice_index_or log k d) ≡ true

-- no step before step k has the same result
abbrev pub IsNewStep : Clauses → List Step → ℕ → Step → Type 0
IsNewStep arena log k s =
    IsSomeAnd (result_of (book_before arena log k) s) (λ r. list_any (is_same r) (results_from (input arena log) (take k log)) ≡ false)

-- step k breaks no rule
abbrev pub IsRightStep : Clauses → List Step → ℕ → Step → Type 0
IsRightStep arena log k s = (has_live_ids arena s ≡ true) × IsSoundStep arena log k s × IsNewStep arena log k s

-- step k breaks a rule, and no step before it does
abbrev pub IsFirstBadStep : Clauses → List Step → ℕ → Type 0
IsFirstBadStep arena log k =
    (k < length log)
    × ((j : ℕ) (d : Step) → j < k → IsRightStep arena log j (slice_index_or log j d))
    × ((d : Step) → ¬ IsRightStep arena log k (slice_index_or log k d))

-- the steps of a valid log whose ids are live break no rule
abbrev pub ExactLaw : Type 0
ExactLaw =
    (arena : Clauses) (log : List Step) → IsValid arena log → AreLive arena log → (k : ℕ) (d : Step) → k < length log → IsRightStep arena log k (slice_index_or log k d)
