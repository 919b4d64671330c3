use Rattle.tree_laws.proofs.VerilogTrees.{expression_trees, statement_trees, declaration_trees}
use Rattle.tree_laws.proofs.verilog_trees.Goals as goal

pub returns-clause-expressions : goal.returns-clause-expressions
returns-clause-expressions c = expression_trees

pub returns-clause-statements : goal.returns-clause-statements
returns-clause-statements c = statement_trees

pub returns-clause-declarations : goal.returns-clause-declarations
returns-clause-declarations c = declaration_trees
