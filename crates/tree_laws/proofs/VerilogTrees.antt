-- The trees of the small Verilog texts, by computing.
use Rattle.std.specs.Prelude.{refl}
use denote.Hole.Carrier.{hidden}
use Rattle.v_grammar.specs.Verilog.{VERILOG}
use Rattle.v_tokens.specs.Kinds.{MARKS, KEYWORDS}
use Rattle.tree_laws.specs.VerilogDeclarations.{DeclarationTrees}
use Rattle.tree_laws.specs.VerilogExpressions.{ExpressionTrees}
use Rattle.tree_laws.specs.VerilogStatements.{StatementTrees}
use Rattle.tree_laws.proofs.VerilogReading.{is_source}

pub expression_trees : ExpressionTrees
unfolding VERILOG MARKS KEYWORDS hidden
expression_trees = record {
  logical_levels = is_source _ _ refl refl;
  bit_levels = is_source _ _ refl refl;
  order_levels = is_source _ _ refl refl;
  logical_levels_turned = is_source _ _ refl refl;
  bit_levels_turned = is_source _ _ refl refl;
  order_levels_turned = is_source _ _ refl refl;
  products = is_source _ _ refl refl;
  sums = is_source _ _ refl refl;
  shifts = is_source _ _ refl refl;
  orders = is_source _ _ refl refl;
  equalities = is_source _ _ refl refl;
  ands = is_source _ _ refl refl;
  exclusive_ors = is_source _ _ refl refl;
  ors = is_source _ _ refl refl;
  logical_ands = is_source _ _ refl refl;
  logical_ors = is_source _ _ refl refl;
  last_conditional = is_source _ _ refl refl;
  middle_conditional = is_source _ _ refl refl;
  signs = is_source _ _ refl refl;
  nots = is_source _ _ refl refl;
  reductions = is_source _ _ refl refl;
  negated_reductions = is_source _ _ refl refl;
  exclusive_reductions = is_source _ _ refl refl;
  parentheses = is_source _ _ refl refl;
  calls = is_source _ _ refl refl;
  decimal_number = is_source _ _ refl refl;
  unsized_number = is_source _ _ refl refl;
  spaced_number = is_source _ _ refl refl;
  sized_number = is_source _ _ refl refl;
  signed_number = is_source _ _ refl refl;
  octal_number = is_source _ _ refl refl;
  bit_select = is_source _ _ refl refl;
  range_select = is_source _ _ refl refl;
  select_up = is_source _ _ refl refl;
  select_down = is_source _ _ refl refl;
  concatenation = is_source _ _ refl refl;
  replication = is_source _ _ refl refl;
  inner_replication = is_source _ _ refl refl;
}

pub statement_trees : StatementTrees
unfolding VERILOG MARKS KEYWORDS hidden
statement_trees = record {
  nearest_if = is_source _ _ refl refl;
  farther_if = is_source _ _ refl refl;
  labelled_block = is_source _ _ refl refl;
  empty_block = is_source _ _ refl refl;
  stored_at_once = is_source _ _ refl refl;
  stored_later = is_source _ _ refl refl;
  stored_together = is_source _ _ refl refl;
  loop_of_four = is_source _ _ refl refl;
  plain_case = is_source _ _ refl refl;
  case_with_unknowns = is_source _ _ refl refl;
}

pub declaration_trees : DeclarationTrees
unfolding VERILOG MARKS KEYWORDS hidden
declaration_trees = record {
  any_change = is_source _ _ refl refl;
  any_change_in_parentheses = is_source _ _ refl refl;
  edge = is_source _ _ refl refl;
  changes = is_source _ _ refl refl;
  first_value = is_source _ _ refl refl;
  nets = is_source _ _ refl refl;
  registers_of_bits = is_source _ _ refl refl;
  memory = is_source _ _ refl refl;
  whole_numbers = is_source _ _ refl refl;
  parameter_item = is_source _ _ refl refl;
  local_parameter_item = is_source _ _ refl refl;
  assignment = is_source _ _ refl refl;
  input_item = is_source _ _ refl refl;
  output_item = is_source _ _ refl refl;
  ordered_instance = is_source _ _ refl refl;
  named_instance = is_source _ _ refl refl;
  ordered_parameters = is_source _ _ refl refl;
  named_parameters = is_source _ _ refl refl;
  header_names = is_source _ _ refl refl;
  header_input = is_source _ _ refl refl;
  header_output = is_source _ _ refl refl;
  header_parameters = is_source _ _ refl refl;
  header_parameter_groups = is_source _ _ refl refl;
}
