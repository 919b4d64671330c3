-- How deep the tree of a Verilog text is, and where its first node stands that is too deep. A node stands as deep as there
-- are nodes around it, and one more; the file stands 1 deep.
use Rattle.std.specs.Prelude.{◌≡◌, ℕ, ◌+◌, ◌<◌, ◌≤◌, List, length, map, slice_index_or, Option, MatchOption}
use Rattle.src_text.specs.declared.refusal.Place.{Place}
use Rattle.src_text.specs.Place.{place_at}
use Rattle.text_scan.specs.declared.scanner.Token.{Token}
use Rattle.v_tree.specs.declared.item.VTree.{VTree}
use Rattle.v_tree.specs.Nodes.{height}
use Rattle.v_tree.specs.Nodes as nodes
use Rattle.src_text.specs.Trees.{Stands}
use Rattle.v_actions.specs.Reading.{tokens_in}

-- the place of token i, or that of the end
abbrev pub place_of_token : (text : List ℕ) → List Token → ℕ → Place
place_of_token text tokens i = place_at text (slice_index_or (map (λ (t : Token). t.start) tokens) i (length text))

-- The place is that of token i of the text, or of a later one.
pub record IsFrom (text : List ℕ) (i : ℕ) (p : Place) : Type 0 where
  pub token : ℕ
  pub from : i ≤ token
  pub within : token < length (tokens_in text)
  pub is : p ≡ place_of_token text (tokens_in text) token

-- The tree is deeper than the limit: a node that stands one deeper begins at token i, and each that stands so deep
-- begins at that token or a later one.
pub record IsDeepAt (text : List ℕ) (limit : ℕ) (tree : VTree) (i : ℕ) : Type 0 where
  pub within : i < length (tokens_in text)
  pub high : limit < height tree
  pub stands : Stands 1 (nodes.trees_of tree) (limit + 1) (place_of_token text (tokens_in text) i)
  pub first : (p : Place) → Stands 1 (nodes.trees_of tree) (limit + 1) p → IsFrom text i p

-- The tree is no deeper than the limit, or it is deeper at this token.
abbrev pub DeepAt : List ℕ → ℕ → VTree → Option ℕ → Type 0
DeepAt text limit tree r = MatchOption r (height tree ≤ limit) (λ i. IsDeepAt text limit tree i)
