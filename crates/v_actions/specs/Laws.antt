-- What holds of every text.
use Rattle.std.specs.Prelude.{◌≡◌, ℕ, List}
use Rattle.ll_parse.specs.Grammar.{Parses}
use Rattle.v_tree.specs.declared.item.VTree.{VTree}
use Rattle.v_actions.specs.Reading.{V, kinds_of, tokens_in, IsVerilogSource}

-- the text is Verilog, and has this tree alone
pub record HasOneTree (text : List ℕ) : Type 0 where
  pub tree : VTree
  pub is : IsVerilogSource text tree
  pub only : (other : VTree) → IsVerilogSource text other → other ≡ tree

-- a text whose tokens have a derivation has one tree
abbrev pub TreeLaw : Type 0
TreeLaw = (text productions : List ℕ) → Parses V (kinds_of (tokens_in text)) productions → HasOneTree text
