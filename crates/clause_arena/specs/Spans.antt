-- Clauses as parts of one list of literals.
use Rattle.std.specs.Prelude.{ℕ, ◌<◌, ◌≤◌, ◌^◌, List, [], ◌∷◌, Option, Some, None, option_map, map, length, slice_range}
use Rattle.clause_arena.specs.declared.Lit.{Lit}
use Rattle.clause_arena.specs.declared.arena.Span.{Span}
use Rattle.clause_arena.specs.Clause.{Clause, Clauses, EachOnce}

-- the clause that stands at a span, if there is one
abbrev pub part : List Lit → Option Span → Option Clause
part lits span = option_map (λ s. slice_range lits s.from s.to) span

-- the clause of each id
abbrev pub parts : List Lit → List (Option Span) → Clauses
parts lits spans = map (part lits) spans

-- the spans follow one another from n on, and end by m
abbrev pub AreInOrder : ℕ → ℕ → List (Option Span) → Type 0
AreInOrder n m [] = n ≤ m
AreInOrder n m (None ∷ spans) = AreInOrder n m spans
AreInOrder n m (Some s ∷ spans) = (n ≤ s.from) × (s.from ≤ s.to) × AreInOrder s.to m spans

-- what the fields of an arena keep
pub record IsTable (lits : List Lit) (spans : List (Option Span)) : Type 0 where
  -- an id fits 32 bits
  pub few : length spans < 2 ^ 32
  pub in_order : AreInOrder 0 (length lits) spans
  pub each_once : EachOnce (parts lits spans)
