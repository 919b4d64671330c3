-- What the actions of a derivation tell of the tree that they build.
use Rattle.std.specs.Prelude.{◌≡◌, ℕ, ◌+◌, ◌*◌, ◌<◌, ◌≤◌, List, [], ◌∷◌, length, Option, Some}
use Rattle.ll_parse.specs.Grammar.{Parses}
use Rattle.node_depth.specs.Nodes.{count, Deep}
use Rattle.node_depth.specs.Weaves.{Look, woven}
use Rattle.c_tokens.specs.Directives.{c_tokens}
use Rattle.c_grammar.specs.declared.TheConstants.{WEAVES}
use Rattle.c_tree.specs.declared.file.CTree.{CTree}
use Rattle.c_tree.specs.Nodes.{trees_of}
use Rattle.src_text.specs.Trees.{size}
use Rattle.c_stack.specs.declared.values.Value.TheVariants as value
use Rattle.c_stack.specs.declared.values.FileValue.TheVariants as file_value
use Rattle.c_actions.specs.Reading.{C, kinds_of, built, actions_of, IsCSource}
use Rattle.c_depth.specs.Depth.{DeepAt}

-- The actions weave one tree of nodes over token numbers, and what is known of the depth of that is so of the tree.
pub record IsTold (text productions : List ℕ) (tree : CTree) : Type 0 where
  pub look : Look
  pub weaves : woven WEAVES (actions_of productions) [] ≡ look ∷ []
  pub one : count look.trees ≡ 1
  pub tells : (limit : ℕ) → 0 < limit → (r : Option ℕ) → Deep limit look.trees r → DeepAt text limit tree r

-- so it is for each derivation of a text, and the tree that it builds
abbrev pub DepthLaw : Type 0
DepthLaw = (text productions : List ℕ) (tree : CTree) → Parses C (kinds_of (c_tokens text)) productions →
    built text (c_tokens text) (actions_of productions) [] ≡ Some (value.File (file_value.Tree tree) ∷ []) → IsTold text productions tree

-- the tree of a text has at most 16 nodes for each byte, and one
abbrev pub SizeLaw : Type 0
SizeLaw = (text : List ℕ) (tree : CTree) → IsCSource text tree → size (trees_of tree) ≤ 16 * length text + 1
