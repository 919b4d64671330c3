-- What the actions of a derivation tell of the tree that they build.
use Rattle.std.specs.Prelude.{◌≡◌, ℕ, ◌+◌, ◌<◌, ◌≤◌, List, [], ◌∷◌, length, Option, Some}
use Rattle.src_text.specs.Trees.{size}
use Rattle.ll_parse.specs.Grammar.{Parses}
use Rattle.node_depth.specs.Nodes.{count, Deep}
use Rattle.node_depth.specs.Weaves.{Look, woven}
use Rattle.v_grammar.specs.declared.TheConstants.{WEAVES}
use Rattle.v_tree.specs.declared.item.VTree.{VTree}
use Rattle.v_tree.specs.Nodes.{trees_of}
use Rattle.v_stack.specs.declared.values.Value.TheVariants as Value
use Rattle.v_stack.specs.declared.values.ModuleValue.TheVariants as ModuleValue
use Rattle.v_actions.specs.Acts.{built}
use Rattle.v_actions.specs.Reading.{V, kinds_of, tokens_in, lexemes, actions_of, IsVerilogSource}
use Rattle.v_depth.specs.Depth.{DeepAt}

-- The actions weave one tree of nodes over token numbers, and what is known of the depth of that is so of the tree.
pub record IsTold (text productions : List ℕ) (tree : VTree) : Type 0 where
  pub look : Look
  pub weaves : woven WEAVES (actions_of productions) [] ≡ look ∷ []
  pub one : count look.trees ≡ 1
  pub tells : (limit : ℕ) → 0 < limit → (r : Option ℕ) → Deep limit look.trees r → DeepAt text limit tree r

-- so it is for each derivation of a text, and the tree that it builds
abbrev pub DepthLaw : Type 0
DepthLaw = (text productions : List ℕ) (tree : VTree) → Parses V (kinds_of (tokens_in text)) productions →
    built (lexemes text) (actions_of productions) [] ≡ Some (Value.Module (ModuleValue.Source tree) ∷ []) → IsTold text productions tree

-- the tree of a text has at most as many nodes as the text has tokens, and one
abbrev pub SizeLaw : Type 0
SizeLaw = (text : List ℕ) (tree : VTree) → IsVerilogSource text tree → size (trees_of tree) ≤ length (tokens_in text) + 1
