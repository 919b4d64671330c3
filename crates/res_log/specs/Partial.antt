-- Partial assignments, and what unit propagation finds in a clause under one (Handbook of
-- Satisfiability, 2009, chapter 4).
use Rattle.std.specs.Prelude.{◌≡◌, Bool, true, false, not, ◌&&◌, ◌||◌, ◌==◌, length}
use Rattle.std.specs.List.{list_any, list_all}
use Rattle.clause_arena.specs.declared.Lit.{Lit}
use Rattle.clause_arena.specs.Clause.{Clause, opposite, lit_eq, has, is_tautology}

-- a partial assignment is the set of the literals that it makes true: it holds no literal and its negation
abbrev pub IsPartial : Clause → Type 0
IsPartial p = is_tautology p ≡ false

-- the variable has no value
abbrev pub is_free : Clause → Lit → Bool
is_free p l = not (has p l) && not (has p (opposite l))

-- each literal of the clause is false
abbrev pub is_false : Clause → Clause → Bool
is_false p c = list_all (λ l. has p (opposite l)) c

-- a literal of the clause is true
abbrev pub is_true : Clause → Clause → Bool
is_true p c = list_any (has p) c

-- two different literals of the clause are free
abbrev pub has_two_free : Clause → Clause → Bool
has_two_free p c = list_any (λ l. is_free p l && list_any (λ m. is_free p m && not (lit_eq m l)) c) c

-- unit propagation finds nothing in the clause: a literal is true, or two are free
abbrev pub is_quiet : Clause → Clause → Bool
is_quiet p c = is_true p c || has_two_free p c

-- the literal is in the clause, and the others are false
abbrev pub is_forced : Clause → Lit → Clause → Bool
is_forced p l c = has c l && list_all (λ m. lit_eq m l || has p (opposite m)) c

-- the partial assignment leaves one literal of the clause free, and makes the others false
abbrev pub IsAsserting : Clause → Clause → Type 0
IsAsserting p c = (l : Lit) × (is_free p l ≡ true) × (is_forced p l c ≡ true)

-- the clause is not empty
abbrev pub is_open : Clause → Bool
is_open c = not (length c == 0)
