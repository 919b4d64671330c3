-- No two answers of a reader hold of one text.
use Rattle.std.proofs.Common.{◌≡◌, ℕ, ◌<◌, ◌≤◌, subst, arith}
use Rattle.c_tree.specs.Nodes.{trees_of}
use Rattle.src_text.specs.Trees.{height as c_height}
use Rattle.v_tree.specs.Nodes.{height as v_height}
use Rattle.reader_laws.specs.Answers.{OneVerilogAnswer, OneCAnswer}

apart : (high : ℕ) → high ≤ 256 → 256 < high → ⊥
apart high low over = omega (arith, low, over)

pub one_verilog_answer : OneVerilogAnswer
one_verilog_answer = record {
  tree_or_syntax = λ text tree place has refused. refused.refuses.none has.is.productions has.is.parses;
  tree_or_depth = λ text tree place has refused. apart (v_height tree) has.low (subst (λ t. 256 < v_height t) (has.only refused.tree refused.has) refused.deep.high);
  syntax_or_depth = λ text one other refused deep. refused.refuses.none deep.has.productions deep.has.parses;
}

pub one_c_answer : OneCAnswer
one_c_answer = record {
  tree_or_syntax = λ text tree place has refused. refused.refuses.none has.is.productions has.is.parses;
  tree_or_depth = λ text tree place has refused. apart (c_height (trees_of tree)) has.low (subst (λ t. 256 < c_height (trees_of t)) (has.only refused.tree refused.has) refused.deep.high);
  syntax_or_depth = λ text one other refused deep. refused.refuses.none deep.has.productions deep.has.parses;
}
