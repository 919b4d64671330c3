-- The trees of the small C texts, by computing.
use Rattle.std.specs.Prelude.{refl}
use denote.Hole.Carrier.{hidden}
use Rattle.c_grammar.specs.Table.{TABLE}
use Rattle.c_tokens.specs.Kinds.{MARKS, KEYWORDS, SUFFIXES}
use Rattle.tree_laws.specs.CDeclarations.{DeclarationTrees}
use Rattle.tree_laws.specs.CExpressions.{ExpressionTrees}
use Rattle.tree_laws.specs.CStatements.{StatementTrees}
use Rattle.tree_laws.proofs.CReading.{is_source}

pub expression_trees : ExpressionTrees
unfolding TABLE MARKS KEYWORDS SUFFIXES hidden
expression_trees = record {
  logical_levels = is_source _ _ refl refl;
  bit_levels = is_source _ _ refl refl;
  order_levels = is_source _ _ refl refl;
  logical_levels_turned = is_source _ _ refl refl;
  bit_levels_turned = is_source _ _ refl refl;
  order_levels_turned = is_source _ _ refl refl;
  products = is_source _ _ refl refl;
  sums = is_source _ _ refl refl;
  shifts = is_source _ _ refl refl;
  orders = is_source _ _ refl refl;
  equalities = is_source _ _ refl refl;
  ands = is_source _ _ refl refl;
  exclusive_ors = is_source _ _ refl refl;
  ors = is_source _ _ refl refl;
  logical_ands = is_source _ _ refl refl;
  logical_ors = is_source _ _ refl refl;
  last_conditional = is_source _ _ refl refl;
  middle_conditional = is_source _ _ refl refl;
  signs = is_source _ _ refl refl;
  nots = is_source _ _ refl refl;
  cast = is_source _ _ refl refl;
  operand_cast = is_source _ _ refl refl;
  parentheses = is_source _ _ refl refl;
  integers = is_source _ _ refl refl;
  characters = is_source _ _ refl refl;
  truths = is_source _ _ refl refl;
  members = is_source _ _ refl refl;
}

pub statement_trees : StatementTrees
unfolding TABLE MARKS KEYWORDS SUFFIXES hidden
statement_trees = record {
  nearest_if = is_source _ _ refl refl;
  farther_if = is_source _ _ refl refl;
  while_loop = is_source _ _ refl refl;
  do_loop = is_source _ _ refl refl;
  for_loop = is_source _ _ refl refl;
  endless_loop = is_source _ _ refl refl;
  half_loop = is_source _ _ refl refl;
  switches = is_source _ _ refl refl;
  last_group = is_source _ _ refl refl;
  empty_switch = is_source _ _ refl refl;
  assignment = is_source _ _ refl refl;
  assigned_call = is_source _ _ refl refl;
  update = is_source _ _ refl refl;
  step_after = is_source _ _ refl refl;
  step_before = is_source _ _ refl refl;
  call = is_source _ _ refl refl;
  plain_return = is_source _ _ refl refl;
  value_return = is_source _ _ refl refl;
  call_return = is_source _ _ refl refl;
  assertion = is_source _ _ refl refl;
  named_assertion = is_source _ _ refl refl;
  assumption = is_source _ _ refl refl;
  updates = is_source _ _ refl refl;
  locals = is_source _ _ refl refl;
}

pub declaration_trees : DeclarationTrees
unfolding TABLE MARKS KEYWORDS SUFFIXES hidden
declaration_trees = record {
  structs = is_source _ _ refl refl;
  functions = is_source _ _ refl refl;
  objects_of_files = is_source _ _ refl refl;
  types = is_source _ _ refl refl;
  exact_types = is_source _ _ refl refl;
  empty_file = is_source _ _ refl refl;
  storage_classes = is_source _ _ refl refl;
}
