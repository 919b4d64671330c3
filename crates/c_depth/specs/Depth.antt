-- How deep the tree of a C text is, and where its first node stands that is too deep. A node stands as deep as there are
-- nodes around it, and one more; the file stands 1 deep.
use Rattle.std.specs.Prelude.{◌≡◌, ℕ, ◌+◌, ◌<◌, ◌≤◌, List, length, Option, MatchOption}
use Rattle.src_text.specs.declared.refusal.Place.{Place}
use Rattle.c_tokens.specs.Directives.{c_tokens}
use Rattle.c_tree.specs.declared.file.CTree.{CTree}
use Rattle.c_tree.specs.Nodes.{trees_of}
use Rattle.src_text.specs.Trees.{Stands, height}
use Rattle.c_actions.specs.Reading.{place_of_token}

-- The place is that of token i of the text, or of a later one.
pub record IsFrom (text : List ℕ) (i : ℕ) (p : Place) : Type 0 where
  pub token : ℕ
  pub from : i ≤ token
  pub within : token < length (c_tokens text)
  pub is : p ≡ place_of_token text (c_tokens text) token

-- The tree is deeper than the limit: a node that stands one deeper begins at token i, and each that stands so deep
-- begins at that token or a later one.
pub record IsDeepAt (text : List ℕ) (limit : ℕ) (tree : CTree) (i : ℕ) : Type 0 where
  pub within : i < length (c_tokens text)
  pub high : limit < height (trees_of tree)
  pub stands : Stands 1 (trees_of tree) (limit + 1) (place_of_token text (c_tokens text) i)
  pub first : (p : Place) → Stands 1 (trees_of tree) (limit + 1) p → IsFrom text i p

-- The tree is no deeper than the limit, or it is deeper at this token.
abbrev pub DeepAt : List ℕ → ℕ → CTree → Option ℕ → Type 0
DeepAt text limit tree r = MatchOption r (height (trees_of tree) ≤ limit) (λ i. IsDeepAt text limit tree i)
