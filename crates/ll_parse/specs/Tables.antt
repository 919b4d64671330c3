-- A table as lists: its grammar, what it picks, and what it claims of its grammar.
use Rattle.std.specs.Prelude.{ℕ, ◌+◌, ◌-◌, ◌*◌, Bool, false, List, [], length, slice_index, slice_index_or, slice_range, nat_lt, if◌then◌else◌}
use Rattle.ll_parse.specs.Grammar.{Grammar}
use Rattle.ll_parse.specs.declared.table.Table.{Table}

-- the lists of a table
pub record Lists : Type 0 where
  pub start : ℕ
  pub heads : List ℕ
  pub bodies : List ℕ
  pub symbols : List ℕ
  pub not_before : List ℕ
  pub rows : List (List ℕ)
  pub follows : List (List ℕ)
  pub witnesses : List ℕ
  pub ranks : List ℕ
  pub costs : List ℕ
  pub nullable : List Bool
  pub per_token : ℕ

-- what a table of the code holds
abbrev pub lists_of : Table → Lists
lists_of t = record {
  start = t.start;
  heads = t.heads.now;
  bodies = t.bodies.now;
  symbols = t.symbols.now;
  not_before = t.not_before.now;
  rows = t.rows.now;
  follows = t.follows.now;
  witnesses = t.witnesses.now;
  ranks = t.ranks.now;
  costs = t.costs.now;
  nullable = t.nullable.now;
  per_token = t.per_token;
}

-- the grammar that the table is for
abbrev pub grammar_of : Lists → Grammar
grammar_of t = record {
  start = t.start;
  productions = length t.heads;
  head = λ p. slice_index t.heads p;
  body = λ p. slice_range t.symbols (slice_index t.bodies p) (slice_index t.bodies (p + 1));
  not_before = λ p. slice_index t.not_before p;
}

-- one more than the production that is picked for the nonterminal s before a token of the kind a, or 0
abbrev pub cell_of : Lists → ℕ → ℕ → ℕ
cell_of t s a = slice_index (slice_index_or t.rows (s - 256) []) a

-- whether a token of the kind a may follow the nonterminal s, or, where a is 0, the end
abbrev pub follow_of : Lists → ℕ → ℕ → Bool
follow_of t s a = nat_lt 0 (slice_index (slice_index_or t.follows (s - 256) []) a)

-- a production by which the nonterminal s comes to an end
abbrev pub witness_of : Lists → ℕ → ℕ
witness_of t s = slice_index t.witnesses (s - 256)

-- the nonterminals in the body of a witness have a lower rank than its head
abbrev pub rank_of : Lists → ℕ → ℕ
rank_of t s = slice_index t.ranks (s - 256)

-- how many productions the symbol s may use, besides those that its tokens pay for
abbrev pub cost_of : Lists → ℕ → ℕ
cost_of t s = if nat_lt s 256 then 0 else slice_index t.costs (s - 256)

-- whether the symbol s may stand for nothing
abbrev pub nullable_of : Lists → ℕ → Bool
nullable_of t s = if nat_lt s 256 then false else slice_index_or t.nullable (s - 256) false

-- at most so many productions have the parse tree of n tokens
abbrev pub most_productions : Lists → ℕ → ℕ
most_productions t n = cost_of t t.start + t.per_token * n
