-- Terms with their widths, and what making some of them does to a graph.
use Rattle.std.specs.Prelude.{◌≡◌, ℕ, ◌+◌, ◌<◌, ◌≤◌, length}
use Rattle.word_eqs.specs.Gates.{term_gates}
use Rattle.word_eqs.specs.Graph.{Graph, IsGraph, width_in}
use Rattle.word_eqs.specs.Meaning.{Values, Respects}
use Rattle.sized_terms.specs.declared.SizedTerm.{SizedTerm}

-- a term is there, and has the width that is said of it
pub record Has (g : Graph) (x : SizedTerm) : Type 0 where
  pub there : x.term.0 < length g.terms
  pub width : width_in g x.term.0 ≡ x.width

-- the number that a term has
abbrev pub bits : Values → SizedTerm → ℕ
bits v x = (v.term x.term.0).value

-- a graph became another by at most so many terms of so many gates; what was there is as before
pub record Builds (old new : Graph) (gates most : ℕ) : Type 0 where
  pub grown : (v : Values) → Respects v new → Respects v old
  pub kept : (x : SizedTerm) → Has old x → Has new x
  pub proper : IsGraph new
  pub cost : term_gates new ≤ term_gates old + gates
  pub count : length new.terms ≤ length old.terms + most

-- so became a graph in which a term of w bits has this number, in each valuation
pub record IsMade (old new : Graph) (w gates most : ℕ) (t : SizedTerm) (number : Values → ℕ) : Type 0 where
  pub builds : Builds old new gates most
  pub has : Has new t
  pub width : t.width ≡ w
  pub value : (v : Values) → Respects v new → bits v t ≡ number v
