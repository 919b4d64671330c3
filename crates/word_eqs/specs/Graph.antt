-- Terms: a graph of nodes by their places, parts before what they are parts of.
use Rattle.std.specs.Prelude.{◌≡◌, ℕ, ◌+◌, ◌-◌, ◌<◌, ◌≤◌, List, [], ◌∷◌, ◌++◌, Option, Some, length, map, slice_get, slice_index, option_map, take, All, Bool, true, false}
use Rattle.bits_core.specs.Word.{IsWidth, IsWord}
use Rattle.bits_core.specs.Ops.{width1, width2}
use Rattle.word_eqs.specs.declared.term.TermId.{TermId}
use Rattle.word_eqs.specs.declared.term.TermNode.{TermNode}
use Rattle.word_eqs.specs.declared.term.TermNode.TheVariants.{Const, Var, One, Two, Choose, Resize, Slice, Join}
use Rattle.word_eqs.specs.declared.term.Term.{Term}

-- what `Terms` are seen as: the width of each variable, and the terms
pub record Graph : Type 0 where
  pub vars : List ℕ
  pub terms : List Term

-- the graph of these variables, by their widths, and these terms
abbrev pub graph : List ℕ → List Term → Graph
graph vars terms = record { vars = vars; terms = terms }

-- so many variables, terms and steps there are at most: an id of 32 bits names each of them
abbrev pub MOST_TERMS : ℕ
MOST_TERMS = 2147483648

-- the width of a term
abbrev pub width_in : Graph → ℕ → ℕ
width_in g t = slice_index (map (λ (x : Term). x.width) g.terms) t

-- the width of a variable
abbrev pub width_of_var : Graph → ℕ → ℕ
width_of_var g x = slice_index g.vars x

-- the node of a term, where it is there
abbrev pub node_at : Graph → ℕ → Option TermNode
node_at g t = option_map (λ (x : Term). x.node) (slice_get g.terms t)

-- the width of a node, by those of its parts
abbrev pub node_width : Graph → TermNode → ℕ
node_width g (Const a) = a.width
node_width g (Var x) = width_of_var g x.0
node_width g (One op a) = width1 op (width_in g a.0)
node_width g (Two op a b) = width2 op (width_in g a.0)
node_width g (Choose c a b) = width_in g a.0
node_width g (Resize a to signed) = to
node_width g (Slice a high low) = high - low + 1
node_width g (Join a b) = width_in g a.0 + width_in g b.0

-- the parts of a node stand before place n, with widths that fit
abbrev pub FitsNode : Graph → ℕ → TermNode → Type 0
FitsNode g n (Const a) = IsWord a
FitsNode g n (Var x) = x.0 < length g.vars
FitsNode g n (One op a) = a.0 < n
FitsNode g n (Two op a b) = (a.0 < n) × (b.0 < n) × (width_in g b.0 ≡ width_in g a.0)
FitsNode g n (Choose c a b) = (c.0 < n) × (a.0 < n) × (b.0 < n) × (width_in g c.0 ≡ 1) × (width_in g b.0 ≡ width_in g a.0)
FitsNode g n (Resize a to signed) = (a.0 < n) × (0 < to) × (to ≤ 128)
FitsNode g n (Slice a high low) = (a.0 < n) × (low ≤ high) × (high < width_in g a.0)
FitsNode g n (Join a b) = (a.0 < n) × (b.0 < n) × (width_in g a.0 + width_in g b.0 ≤ 128)

-- a term that fits at place k, and says its width
pub record IsTermAt (g : Graph) (k : ℕ) (x : Term) : Type 0 where
  pub fits : FitsNode g k x.node
  pub width : x.width ≡ node_width g x.node
  pub some : 0 < x.width
  pub within : x.width ≤ 128

-- what all `Terms` keep
pub record IsGraph (g : Graph) : Type 0 where
  pub vars : All IsWidth g.vars
  pub terms : (k : ℕ) (x : Term) → slice_get g.terms k ≡ Some x → IsTermAt g k x
  pub few_vars : length g.vars ≤ MOST_TERMS
  pub few_terms : length g.terms ≤ MOST_TERMS

-- a graph with one variable or one term more
abbrev pub with_var : Graph → ℕ → Graph
with_var g w = graph (g.vars ++ w ∷ []) g.terms

-- a graph with one term more, of the width that its node has by its parts
abbrev pub with_term : Graph → TermNode → Graph
with_term g node = graph g.vars (g.terms ++ (record { node = node; width = node_width g node }) ∷ [])

-- the variables and the terms that were there stay, at their places
pub record Extends (old new : Graph) : Type 0 where
  pub vars : take (length old.vars) new.vars ≡ old.vars
  pub terms : take (length old.terms) new.terms ≡ old.terms

-- t is there, with a width; the terms that were there keep theirs
pub record IsTyped (old new : Graph) (w t : ℕ) : Type 0 where
  pub there : t < length new.terms
  pub width : width_in new t ≡ w
  pub longer : length old.terms ≤ length new.terms
  pub kept : (k : ℕ) → k < length old.terms → width_in new k ≡ width_in old k

-- the places of the parts of a node
abbrev pub parts : TermNode → List ℕ
parts (Const a) = []
parts (Var x) = []
parts (One op a) = a.0 ∷ []
parts (Two op a b) = a.0 ∷ b.0 ∷ []
parts (Choose c a b) = c.0 ∷ a.0 ∷ b.0 ∷ []
parts (Resize a to signed) = a.0 ∷ []
parts (Slice a high low) = a.0 ∷ []
parts (Join a b) = a.0 ∷ b.0 ∷ []

-- the places that a list of names says
abbrev pub places : List TermId → List ℕ
places ids = map (λ (t : TermId). t.0) ids

-- whether a node is no variable: a copy of a variable is a term that is there, and a copy of another node may be a new
-- one
abbrev pub is_made : TermNode → Bool
is_made (Var x) = false
is_made _ = true

-- whether a term is no variable
abbrev pub is_no_var : Term → Bool
is_no_var x = is_made x.node
