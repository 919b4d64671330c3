-- Copies of a graph's terms, with other terms put in for its variables.
use Rattle.std.specs.Prelude.{◌≡◌, ℕ, ◌+◌, ◌<◌, ◌≤◌, List, [], ◌∷◌, length, slice_index, count_by}
use Rattle.word_eqs.specs.declared.term.TermId.{TermId}
use Rattle.word_eqs.specs.declared.term.TermNode.{TermNode}
use Rattle.word_eqs.specs.declared.term.TermNode.TheVariants.{Const, Var, One, Two, Choose, Resize, Slice, Join}
use Rattle.word_eqs.specs.declared.term.Term.{Term}
use Rattle.word_eqs.specs.Graph.{Graph, width_in, width_of_var, IsGraph, Extends, is_no_var}
use Rattle.word_eqs.specs.Meaning.{Values, Respects, node_word}
use Rattle.word_eqs.specs.Gates.{node_gates, term_gates}

-- a term for each variable of a graph, of its width
pub record AreSubs (g from : Graph) (subs : List ℕ) : Type 0 where
  pub len : length subs ≡ length from.vars
  pub there : (x : ℕ) → x < length from.vars → slice_index subs x < length g.terms
  pub widths : (x : ℕ) → x < length from.vars → width_in g (slice_index subs x) ≡ width_of_var from x

-- the first k terms of a graph have copies, of their widths
pub record AreCopies (new from : Graph) (ids : List ℕ) (k : ℕ) : Type 0 where
  pub len : length ids ≡ k
  pub there : (j : ℕ) → j < k → slice_index ids j < length new.terms
  pub widths : (j : ℕ) → j < k → width_in new (slice_index ids j) ≡ width_in from j

-- the term that the list has at the place of another
abbrev pub moved : List ℕ → TermId → TermId
moved ids t = record { 0 = slice_index ids t.0 }

-- the same node, with the terms that stand in the list for its parts
abbrev pub moved_node : List ℕ → TermNode → TermNode
moved_node ids (Const a) = Const a
moved_node ids (Var x) = Var x
moved_node ids (One op a) = One op (moved ids a)
moved_node ids (Two op a b) = Two op (moved ids a) (moved ids b)
moved_node ids (Choose c a b) = Choose (moved ids c) (moved ids a) (moved ids b)
moved_node ids (Resize a to signed) = Resize (moved ids a) to signed
moved_node ids (Slice a high low) = Slice (moved ids a) high low
moved_node ids (Join a b) = Join (moved ids a) (moved ids b)

-- a valuation read through the terms that stand for variables, and those that are copies of terms
abbrev pub through : Values → List ℕ → List ℕ → Values
through v subs ids = record { var = λ x. v.term (slice_index subs x); term = λ k. v.term (slice_index ids k) }

-- read so, a valuation of the new graph is one of the graph that was copied
pub record Copies (old new from : Graph) (subs ids : List ℕ) : Type 0 where
  pub grown : (v : Values) → Respects v new → Respects v old
  pub value : (v : Values) → Respects v new → Respects (through v subs ids) from

-- t is the copy of the next term, x
pub record IsCopy (old new from : Graph) (subs ids : List ℕ) (x : Term) (t : ℕ) : Type 0 where
  pub extends : Extends old new
  pub vars : new.vars ≡ old.vars
  pub proper : IsGraph new
  pub there : t < length new.terms
  pub width : width_in new t ≡ x.width
  pub value : (v : Values) → Respects v new → v.term t ≡ node_word (through v subs ids) x.node
  pub count : length new.terms ≤ length old.terms + count_by is_no_var (x ∷ [])
  pub cost : term_gates new ≤ term_gates old + node_gates from x.node
