-- Logs each of whose results gives unit propagation something that the clauses before it do not give:
-- a result that is not empty is 1-empowering (K. Pipatsrisawat and A. Darwiche, On the power of
-- clause-learning SAT solvers as resolution engines, Artificial Intelligence 175, 2011).
use Rattle.std.specs.Prelude.{◌≡◌, ℕ, ◌<◌, true, List, [], ◌∷◌, length, slice_index_or}
use Rattle.std.specs.Option.{ForSome, IsSomeAnd}
use Rattle.clause_arena.specs.Clause.{Clause, Clauses}
use Rattle.res_log.specs.Step.{Step}
use Rattle.res_log.specs.Log.{Book, book_before, result_of}
use Rattle.res_log.specs.Partial.{IsPartial, IsAsserting, is_quiet, is_open}

-- Some partial assignment leaves one literal of the clause free and makes the others false, and under
-- it each clause of the book has a true literal or two free ones. The empty clause is gained where no
-- clause of the book is empty.
abbrev pub IsGainedOver : Book → Clause → Type 0
IsGainedOver book [] = (id : ℕ) → ForSome (book id) (λ d. is_open d ≡ true)
IsGainedOver book (x ∷ xs) =
    (p : Clause) × IsPartial p × IsAsserting p (x ∷ xs) × ((id : ℕ) → ForSome (book id) (λ d. is_quiet p d ≡ true))

-- each step's result is gained over the inputs and the earlier results
abbrev pub IsGaining : Clauses → List Step → Type 0
IsGaining arena log =
    (k : ℕ) (d : Step) → k < length log → IsSomeAnd (result_of (book_before arena log k) (slice_index_or log k d)) (IsGainedOver (book_before arena log k))
