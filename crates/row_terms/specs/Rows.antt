-- Parts side by side, the first on the left (IEEE 1364-2005, 5.1.14): each stands by itself.
use Rattle.std.specs.Prelude.{◌≡◌, ℕ, ◌+◌, ◌-◌, ◌*◌, ◌^◌, ◌<◌, ◌≤◌, min, List, [], ◌∷◌, Option, Some, None, length}
use Rattle.flat_tree.specs.declared.expr.FlatExpr.{FlatExpr}
use Rattle.flat_tree.specs.Measures.{nodes_of, weight_of}
use Rattle.flat_tree.specs.Values.{Shape, World, meant, own_sites, own_count, own_value}
use Rattle.flat_values.specs.Fits.{list_meant}
use Rattle.site_terms.specs.Sizes.{Makes}
use Rattle.term_steps.specs.Adds.{Adds}
use Rattle.word_eqs.specs.declared.term.TermId.{TermId}
use Rattle.word_eqs.specs.Graph.{Graph, width_in}
use Rattle.word_eqs.specs.Meaning.{Values}

-- how many terms there may be, by a weight and a number of nodes: fewer than 8 times the one, and than 32 times the other
abbrev pub most_terms : ℕ → ℕ → ℕ
most_terms weight nodes = min (8 * weight) (32 * nodes) - 1

-- the weight of parts, each at its own length
abbrev pub list_weight : (ℕ → Shape) → List FlatExpr → ℕ
list_weight shapes [] = 0
list_weight shapes (e ∷ rest) = weight_of shapes e (meant shapes e).length + list_weight shapes rest

-- their nodes
abbrev pub list_nodes : (ℕ → Shape) → List FlatExpr → ℕ
list_nodes shapes [] = 0
list_nodes shapes (e ∷ rest) = nodes_of shapes e + list_nodes shapes rest

-- their numbers side by side, the first site having a number
abbrev pub list_value : (ℕ → Shape) → List FlatExpr → World → ℕ → ℕ
list_value shapes [] x k = 0
list_value shapes (e ∷ rest) x k =
    own_value (meant shapes e) x k * 2 ^ (list_meant shapes rest).length + own_value (list_meant shapes rest) x (k + own_count (meant shapes e))

-- what a valuation says of signals and sites, by how many variables there were before the sites
abbrev pub Worlds : Type 0
Worlds = ℕ → Values → World

-- t is the term of one part by itself
abbrev pub IsPart : (ℕ → Shape) → Worlds → FlatExpr → (old new : Graph) → ℕ → Type 0
IsPart shapes world e old new t =
    (reads : ℕ) → reads ≤ length old.vars →
    Makes old new (own_sites (meant shapes e)) (meant shapes e).length (λ v. own_value (meant shapes e) (world reads v) (length old.vars - reads))
    (8 * weight_of shapes e (meant shapes e).length) (most_terms (weight_of shapes e (meant shapes e).length) (nodes_of shapes e)) t

-- t is the term of parts side by side
abbrev pub AreJoined : (ℕ → Shape) → Worlds → List FlatExpr → (old new : Graph) → ℕ → Type 0
AreJoined shapes world parts old new t =
    (reads : ℕ) → reads ≤ length old.vars →
    Makes old new (own_sites (list_meant shapes parts)) (list_meant shapes parts).length (λ v. list_value shapes parts (world reads v) (length old.vars - reads))
    (8 * list_weight shapes parts) (most_terms (list_weight shapes parts) (list_nodes shapes parts)) t

-- t is a term with another on its left, if there is one
abbrev pub IsBeside : Option TermId → (old new : Graph) → (x t : ℕ) → Type 0
IsBeside None old new x t = (new ≡ old) × (t ≡ x)
IsBeside (Some a) old new x t = Adds old new (width_in old a.0 + width_in old x) (λ v. (v.term a.0).value * 2 ^ width_in old x + (v.term x).value) 0 1 t

-- the terms of two parts may be joined
abbrev pub MayStandBeside : Option TermId → Graph → ℕ → Type 0
MayStandBeside None g x = Unit {0}
MayStandBeside (Some a) g x = (a.0 < length g.terms) × (width_in g a.0 + width_in g x ≤ 128)
