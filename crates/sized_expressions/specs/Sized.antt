-- What a walk over a flat expression starts from, and what it adds: the term of its value at a width and a sign.
use Rattle.std.specs.Prelude.{◌≡◌, ℕ, ◌+◌, ◌-◌, ◌*◌, ◌<◌, ◌≤◌, max, List, Bool, length, slice_index}
use Rattle.bits_core.specs.Word.{IsWidth}
use Rattle.flat_tree.specs.declared.design.FlatSignal.{FlatSignal}
use Rattle.flat_tree.specs.declared.expr.FlatExpr.{FlatExpr}
use Rattle.flat_tree.specs.Measures.{nodes_of, weight_of}
use Rattle.flat_tree.specs.Values.{Shape, World, Meant, meant, sites_of}
use Rattle.flat_values.specs.Fits.{Fits, IsSignal, shapes_of}
use Rattle.row_terms.specs.Rows.{most_terms}
use Rattle.site_terms.specs.Sizes.{Makes}
use Rattle.word_eqs.specs.declared.term.TermId.{TermId}
use Rattle.word_eqs.specs.Graph.{Graph, width_in, places, MOST_TERMS}
use Rattle.word_eqs.specs.Meaning.{Values}

-- the place of the term of a signal's word: each signal's words stand in a row, from its start on
abbrev pub place_in : List ℕ → List TermId → ℕ → ℕ → ℕ
place_in starts words g i = slice_index (places words) (slice_index starts g + i)

-- what a valuation says of signals and sites: the numbers of the sites are variables, behind so many others
abbrev pub world_in : List ℕ → List TermId → ℕ → Values → World
world_in starts words reads v = record { word = λ g i. (v.term (place_in starts words g i)).value; unknown = λ k. (v.var (reads + k)).value }

-- a signal that has a term of its width for each of its words
pub record IsKnown (count : ℕ) (shapes : ℕ → Shape) (starts : List ℕ) (words : List TermId) (g : Graph) (k : ℕ) : Type 0 where
  pub signal : IsSignal count shapes k
  pub start : k < length starts
  pub inside : slice_index starts k + max 1 (shapes k).words ≤ length words
  pub there : (i : ℕ) → i < max 1 (shapes k).words → place_in starts words k i < length g.terms
  pub width : (i : ℕ) → i < max 1 (shapes k).words → width_in g (place_in starts words k i) ≡ (shapes k).bits

-- an expression that is taken, over signals that have terms
abbrev pub IsReady : List FlatSignal → List ℕ → List TermId → Graph → FlatExpr → Type 0
IsReady signals starts words g e = Fits (IsKnown (length signals) (shapes_of signals) starts words g) (Unit {0}) (Unit {0}) (shapes_of signals) e

-- an expression that may be walked over at a width: there is room for its sites and its terms
pub record MaySize (signals : List FlatSignal) (starts : List ℕ) (words : List TermId) (g : Graph) (e : FlatExpr) (w : ℕ) : Type 0 where
  pub fits : IsReady signals starts words g e
  pub width : IsWidth w
  pub few : length g.vars + length (sites_of (shapes_of signals) e w) < MOST_TERMS
  pub room : length g.terms + 32 * nodes_of (shapes_of signals) e ≤ MOST_TERMS

-- t is the term of what is meant, at a width and a sign, in each view and for all numbers of the sites, which are the
-- variables that were added; at most 8 times so much weight in gates
abbrev pub IsSized : List ℕ → List TermId → Meant → ℕ → Bool → (weight nodes : ℕ) → (old new : Graph) → ℕ → Type 0
IsSized starts words m w s weight nodes old new t =
    (reads : ℕ) → reads ≤ length old.vars →
    Makes old new (m.sites w) w (λ v. m.value (world_in starts words reads v) w s (length old.vars - reads)) (8 * weight) (most_terms weight nodes) t

-- t is the term of an expression at a width and a sign
abbrev pub IsTermOf : List FlatSignal → List ℕ → List TermId → FlatExpr → ℕ → Bool → (old new : Graph) → ℕ → Type 0
IsTermOf signals starts words e w s old new t =
    IsSized starts words (meant (shapes_of signals) e) w s (weight_of (shapes_of signals) e w) (nodes_of (shapes_of signals) e) old new t
