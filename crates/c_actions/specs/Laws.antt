-- What holds of every text.
use Rattle.std.specs.Prelude.{◌≡◌, ℕ, List}
use Rattle.ll_parse.specs.Grammar.{Parses}
use Rattle.c_tokens.specs.Directives.{c_tokens}
use Rattle.c_tree.specs.declared.file.CTree.{CTree}
use Rattle.c_actions.specs.Reading.{C, kinds_of, IsCSource}

-- the text is C, and has this tree alone
pub record HasOneTree (text : List ℕ) : Type 0 where
  pub tree : CTree
  pub is : IsCSource text tree
  pub only : (other : CTree) → IsCSource text other → other ≡ tree

-- a text whose tokens have a derivation has one tree
abbrev pub TreeLaw : Type 0
TreeLaw = (text productions : List ℕ) → Parses C (kinds_of (c_tokens text)) productions → HasOneTree text
