-- Values of flat expressions in the view that a row of terms stands for.
use Rattle.std.specs.Prelude.{ℕ, ◌+◌, ◌-◌, ◌*◌, ◌<◌, ◌≤◌, List, Bool, length}
use Rattle.bits_core.specs.Word.{IsWidth}
use Rattle.v_views.specs.Language.{Language}
use Rattle.flat_tree.specs.declared.design.FlatSignal.{FlatSignal}
use Rattle.flat_tree.specs.declared.expr.FlatExpr.{FlatExpr}
use Rattle.flat_tree.specs.Measures.{nodes_of, weight_of}
use Rattle.flat_tree.specs.Values.{Shape, sites_of}
use Rattle.flat_language.proofs.Local.{flat_language}
use Rattle.flat_values.specs.Fits.{IsTaken, shapes_of}
use Rattle.site_terms.specs.Sizes.{Makes}
use Rattle.row_terms.specs.Rows.{most_terms}
use Rattle.view_rows.specs.Rows.{IsRow, view_in}
use Rattle.part_stores.specs.Stores.{seen}
use Rattle.word_eqs.specs.declared.term.TermId.{TermId}
use Rattle.word_eqs.specs.Graph.{Graph, MOST_TERMS}
use Rattle.word_eqs.specs.Meaning.{Values}

-- an expression that may be taken at a width: it fits, its signals have terms, and there is room for its sites and terms
pub record MayView (signals : List FlatSignal) (starts : List ℕ) (words : List TermId) (g : Graph) (e : FlatExpr) (w : ℕ) : Type 0 where
  pub fits : IsTaken (length signals) (shapes_of signals) e
  pub row : IsRow (length signals) (seen (shapes_of signals)) starts words g
  pub width : IsWidth w
  pub few : length g.vars + length (sites_of (shapes_of signals) e w) < MOST_TERMS
  pub room : length g.terms + 32 * nodes_of (shapes_of signals) e ≤ MOST_TERMS

-- the numbers of the sites: the variables behind so many others
abbrev pub sites_in : ℕ → Values → ℕ → ℕ
sites_in others v k = (v.var (others + k)).value

-- t is the term of an expression's value at a width and a sign, in the view that the row stands for in each valuation; the
-- numbers of its sites are the variables that were added. Gates are at most 8 times the weight.
abbrev pub IsViewed : List FlatSignal → List ℕ → List TermId → FlatExpr → ℕ → Bool → (old new : Graph) → ℕ → Type 0
IsViewed signals starts words e w s old new t =
    (others : ℕ) → others ≤ length old.vars →
    Makes old new (sites_of (shapes_of signals) e w) w
    (λ v. let l = flat_language (shapes_of signals) in l.value e (view_in (seen (shapes_of signals)) starts words v) (sites_in others v) w s (length old.vars - others))
    (8 * weight_of (shapes_of signals) e w) (most_terms (weight_of (shapes_of signals) e w) (nodes_of (shapes_of signals) e)) t
