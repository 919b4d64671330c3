-- Clauses as lists of numbers in rising order, so that equal sets have equal lists.
use Rattle.std.specs.Prelude.{◌≡◌, ℕ, ◌+◌, ◌*◌, true, List, if◌then◌else◌, nat_eq}
use Rattle.std.specs.List.{list_any, Contains}
use Rattle.std.specs.List.Sorted.{IsStrictlyIncreasing}
use Rattle.std.specs.Cmp.Lexicographic.{pointwise}
use Rattle.clause_arena.specs.declared.Lit.{Lit}
use Rattle.clause_arena.specs.Clause.{Clause, has, is_same}

-- a literal as a number
abbrev pub code_of : Lit → ℕ
code_of l = 2 * l.var + (if l.negative then 1 else 0)

-- the numbers of the clause's literals, each once, in rising order
pub record IsKey (c : Clause) (q : List ℕ) : Type 0 where
  pub rises : IsStrictlyIncreasing q
  pub of : (x : ℕ) → Contains q x → (l : Lit) × (has c l ≡ true) × (x ≡ code_of l)
  pub all : (l : Lit) → has c l ≡ true → Contains q (code_of l)

-- a clause is one of those remembered just if its key is there
abbrev pub Remembers : List (List ℕ) → List Clause → Type 0
Remembers keys cs = (c : Clause) (q : List ℕ) → IsKey c q → list_any (pointwise nat_eq q) keys ≡ list_any (is_same c) cs
