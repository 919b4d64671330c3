-- What the tree of a text has by its tokens.
use Rattle.std.specs.Prelude.{ℕ, List}
use Rattle.c_tree.specs.declared.file.CTree.{CTree}
use Rattle.c_actions.specs.Reading.{IsCSource}
use Rattle.c_text_laws.specs.Bytes.{TreeBytes}

-- in the tree of a text each character constant is a byte, and each group of a `switch` has a label
abbrev pub TextsHaveBytes : Type 0
TextsHaveBytes = (text : List ℕ) (tree : CTree) → IsCSource text tree → TreeBytes tree
