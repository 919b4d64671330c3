-- What terms that were added give, where some of them are sites: variables of their own.
use Rattle.std.specs.Prelude.{◌≡◌, ℕ, ◌+◌, ◌<◌, ◌≤◌, ◌^◌, List, [], ◌∷◌, ◌++◌, length, map}
use Rattle.bits_core.specs.Word.{word}
use Rattle.flat_tree.specs.declared.expr.PlacedSite.{PlacedSite}
use Rattle.word_eqs.specs.Gates.{term_gates}
use Rattle.word_eqs.specs.Graph.{Graph, IsTyped}
use Rattle.word_eqs.specs.Meaning.{Values, Respects}

-- the widths of their variables
abbrev pub bits_of : List PlacedSite → List ℕ
bits_of sites = map (λ (x : PlacedSite). x.bits) sites

-- t is the term of w bits and a value; sites had variables added, and at most so many gates and terms were
pub record Makes (old new : Graph) (sites : List PlacedSite) (w : ℕ) (value_in : Values → ℕ) (gates terms t : ℕ) : Type 0 where
  pub grown : (v : Values) → Respects v new → Respects v old
  pub value : (v : Values) → Respects v new → v.term t ≡ word w (value_in v)
  pub typed : IsTyped old new w t
  pub vars : new.vars ≡ old.vars ++ bits_of sites
  pub cost : term_gates new ≤ term_gates old + gates
  pub count : length new.terms ≤ length old.terms + terms

-- t is the term of a new variable of w bits
pub record IsFresh (old new : Graph) (w t : ℕ) : Type 0 where
  pub grown : (v : Values) → Respects v new → Respects v old
  pub value : (v : Values) → Respects v new → v.term t ≡ word w (v.var (length old.vars)).value
  pub below : (v : Values) → Respects v new → (v.var (length old.vars)).value < 2 ^ w
  pub typed : IsTyped old new w t
  pub vars : new.vars ≡ old.vars ++ w ∷ []
  pub cost : term_gates new ≤ term_gates old
  pub count : length new.terms ≤ length old.terms + 1
