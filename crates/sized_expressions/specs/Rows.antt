-- What a walk over parts side by side starts from.
use Rattle.std.specs.Prelude.{ℕ, ◌+◌, ◌*◌, ◌<◌, ◌≤◌, List, length}
use Rattle.bits_core.specs.Word.{IsWidth}
use Rattle.flat_tree.specs.declared.design.FlatSignal.{FlatSignal}
use Rattle.flat_tree.specs.declared.expr.FlatExpr.{FlatExpr}
use Rattle.flat_tree.specs.Values.{own_sites}
use Rattle.flat_values.specs.Fits.{FitsList, shapes_of, list_meant}
use Rattle.row_terms.specs.Rows.{list_nodes}
use Rattle.sized_expressions.specs.Sized.{IsKnown}
use Rattle.word_eqs.specs.declared.term.TermId.{TermId}
use Rattle.word_eqs.specs.Graph.{Graph, MOST_TERMS}

-- parts that are taken, over signals that have terms
abbrev pub AreReady : List FlatSignal → List ℕ → List TermId → Graph → List FlatExpr → Type 0
AreReady signals starts words g parts = FitsList (IsKnown (length signals) (shapes_of signals) starts words g) (Unit {0}) (Unit {0}) (shapes_of signals) parts

-- parts that may be walked over: there is room for their sites and their terms
pub record MayJoin (signals : List FlatSignal) (starts : List ℕ) (words : List TermId) (g : Graph) (parts : List FlatExpr) : Type 0 where
  pub fits : AreReady signals starts words g parts
  pub width : IsWidth (list_meant (shapes_of signals) parts).length
  pub few : length g.vars + length (own_sites (list_meant (shapes_of signals) parts)) < MOST_TERMS
  pub room : length g.terms + 32 * list_nodes (shapes_of signals) parts ≤ MOST_TERMS
