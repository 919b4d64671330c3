-- A text has one answer of its reader: a tree, a refusal of its syntax, or a refusal as too deep.
use Rattle.std.specs.Prelude.{ℕ, List}
use Rattle.src_text.specs.declared.refusal.Place.{Place}
use Rattle.c_parse.specs.Ends as c
use Rattle.c_tree.specs.declared.file.CTree.{CTree}
use Rattle.v_parse.specs.Ends as verilog
use Rattle.v_tree.specs.declared.item.VTree.{VTree}

-- no Verilog text has two of these answers
pub record OneVerilogAnswer : Type 0 where
  pub tree_or_syntax : (text : List ℕ) (tree : VTree) (place : Place) → verilog.HasTree text tree → ¬ (verilog.RefusesSyntax text place)
  pub tree_or_depth : (text : List ℕ) (tree : VTree) (place : Place) → verilog.HasTree text tree → ¬ (verilog.RefusesDepth text place)
  pub syntax_or_depth : (text : List ℕ) (one other : Place) → verilog.RefusesSyntax text one → ¬ (verilog.RefusesDepth text other)

-- no C text has two of these answers
pub record OneCAnswer : Type 0 where
  pub tree_or_syntax : (text : List ℕ) (tree : CTree) (place : Place) → c.HasTree text tree → ¬ (c.RefusesSyntax text place)
  pub tree_or_depth : (text : List ℕ) (tree : CTree) (place : Place) → c.HasTree text tree → ¬ (c.RefusesDepth text place)
  pub syntax_or_depth : (text : List ℕ) (one other : Place) → c.RefusesSyntax text one → ¬ (c.RefusesDepth text other)
