-- Literals, clauses as sets of literals, satisfaction, resolution, and how many clauses there can be.
--
-- The words are those of the literature on satisfiability: a literal is a variable or its negation, a
-- clause is a finite set of literals read as their disjunction, and a formula is a set of clauses read
-- as their conjunction (Biere, Heule, van Maaren and Walsh, eds., Handbook of Satisfiability, 2009,
-- chapters 1 and 2).
use Rattle.std.specs.Prelude.{◌≡◌, ℕ, ◌≤◌, ◌^◌, length, nat_lt, Bool, true, false, not, ◌==◌, ◌&&◌, ◌||◌, List, ◌++◌, filter, Option, Some, None, if◌then◌else◌, slice_index_or}
use Rattle.std.specs.List.{list_any, list_all, IsDistinct}
use Rattle.std.specs.Option.{ForSome}
use Rattle.clause_arena.specs.declared.Lit.{Lit}

-- A clause is the set of the literals of its list. Neither their order nor a repetition counts.
abbrev pub Clause : Type 0
Clause = List Lit

-- the literal of a variable with a sign: with true, the negated one
abbrev pub lit : Bool → ℕ → Lit
lit sign v = record { var = v; negative = sign }

-- the other literal of the same variable
abbrev pub opposite : Lit → Lit
opposite l = lit (not l.negative) l.var

-- whether two truth values are the same
abbrev pub bool_eq : Bool → Bool → Bool
bool_eq true b = b
bool_eq false b = not b

-- whether two literals are the same: of one variable, with one sign
abbrev pub lit_eq : Lit → Lit → Bool
lit_eq a b = (a.var == b.var) && bool_eq a.negative b.negative

-- the literal is in the clause
abbrev pub has : Clause → Lit → Bool
has c l = list_any (lit_eq l) c

-- each literal of the first is in the second: the first subsumes the second
abbrev pub is_subset : Clause → Clause → Bool
is_subset c d = list_all (has d) c

-- the two lists have the same literals, and so are one clause
abbrev pub is_same : Clause → Clause → Bool
is_same c d = is_subset c d && is_subset d c

-- no literal stands twice in the list
abbrev pub IsEachOnce : Clause → Type 0
IsEachOnce = IsDistinct lit_eq

-- no variable stands twice in the list, be it with one sign or with both
abbrev pub IsEachVariableOnce : Clause → Type 0
IsEachVariableOnce = IsDistinct (λ a b. a.var == b.var)

-- A literal and its negation are both in the clause, so that all values satisfy it (Handbook of
-- Satisfiability, 2.2: a tautological clause).
abbrev pub is_tautology : Clause → Bool
is_tautology c = list_any (λ l. has c (opposite l)) c

-- the variable stands in the clause with this sign alone
abbrev pub has_only : Bool → Clause → ℕ → Bool
has_only sign c v = has c (lit sign v) && not (has c (lit (not sign) v))

-- The two clauses clash on the variable: it stands in the first with one sign alone, and in the
-- second with the opposite sign alone.
abbrev pub clash : Clause → Clause → ℕ → Bool
clash c d v = (has_only false c v && has_only true d v) || (has_only true c v && has_only false d v)

-- the literals of other variables
abbrev pub without : ℕ → Clause → Clause
without v c = filter (λ l. not (l.var == v)) c

-- The resolvent on a pivot (J. A. Robinson, A machine-oriented logic based on the resolution
-- principle, Journal of the ACM 12, 1965): the union of both clauses without the pivot's two
-- literals. There is none where the clauses do not clash on the pivot, or where it would be a tautology.
abbrev pub resolve : Clause → Clause → ℕ → Option Clause
resolve c d v =
    if clash c d v && not (is_tautology (without v c ++ without v d)) then Some (without v c ++ without v d) else None

-- the value of a literal under the values of the variables
abbrev pub value_of : (ℕ → Bool) → Lit → Bool
value_of a l = bool_eq (a l.var) (not l.negative)

-- The values satisfy the clause: one of its literals holds. The empty clause is never satisfied.
abbrev pub satisfies : (ℕ → Bool) → Clause → Bool
satisfies a c = list_any (value_of a) c

-- what an arena has for each id that it gave: a clause, or nothing where the id is dead
abbrev pub Clauses : Type 0
Clauses = List (Option Clause)

-- the clause of an id, if that id is live
abbrev pub clause_at : Clauses → ℕ → Option Clause
clause_at arena id = slice_index_or arena id None

-- the fact holds of each live clause
abbrev pub EachClause : (Clause → Type 0) → Clauses → Type 0
EachClause P arena = (id : ℕ) → ForSome (clause_at arena id) P

-- The values are a model of the clauses: they satisfy each live one (DIMACS, Satisfiability suggested
-- format, 1993: a formula is the conjunction of its clauses).
abbrev pub IsModel : (ℕ → Bool) → Clauses → Type 0
IsModel a arena = EachClause (λ c. satisfies a c ≡ true) arena

-- no literal stands twice in a live list
abbrev pub EachOnce : Clauses → Type 0
EachOnce arena = EachClause IsEachOnce arena

-- each variable of the clause is below n
abbrev pub is_below : ℕ → Clause → Bool
is_below n c = list_all (λ l. nat_lt l.var n) c

-- no literal with its negation, and each variable below n
abbrev pub is_plain : ℕ → Clause → Bool
is_plain n c = is_below n c && not (is_tautology c)

-- no two of the clauses are the same set
abbrev pub AreDifferent : List Clause → Type 0
AreDifferent = IsDistinct is_same

-- pairwise different clauses over n variables, none of which holds a literal with its negation, are at most 3 ^ n
abbrev pub CountLaw : Type 0
CountLaw = (n : ℕ) (cs : List Clause) → list_all (is_plain n) cs ≡ true → AreDifferent cs → length cs ≤ 3 ^ n
