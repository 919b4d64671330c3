-- Arrays by variable that say the same as the list of the true literals.
use Rattle.std.specs.Prelude.{◌≡◌, ℕ, ◌<◌, true, false, List, length, map, Option, None, if◌then◌else◌, slice_index, slice_index_or}
use Rattle.clause_arena.specs.declared.Lit.{Lit}
use Rattle.clause_arena.specs.declared.ClauseId.{ClauseId}
use Rattle.clause_arena.specs.Clause.{lit, has}
use Rattle.cdcl.specs.Trail.{Reasons}

-- the value of a variable under which the literal is true
abbrev pub code_of : Lit → ℕ
code_of l = if l.negative then 2 else 1

-- what stands for a variable: 0 where it is free, 1 where it is true, 2 where it is false
abbrev pub value_in : List Lit → ℕ → ℕ
value_in p v = if has p (lit false v) then 1 else (if has p (lit true v) then 2 else 0)

-- the array has the value of each variable
abbrev pub AreValues : List Lit → List ℕ → Type 0
AreValues p values = (v : ℕ) → v < length values → slice_index values v ≡ value_in p v

-- for the variable of each literal its place
abbrev pub ArePlaces : List Lit → List ℕ → Type 0
ArePlaces p places = (k : ℕ) (d : Lit) → k < length p → slice_index places (slice_index_or p k d).var ≡ k

-- the reasons by variable, in the order of the literals
abbrev pub reasons_along : List (Option ClauseId) → List Lit → Reasons
reasons_along by_variable p = map (λ l. slice_index_or by_variable l.var None) p
