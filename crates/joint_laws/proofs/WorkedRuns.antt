-- The worked runs, by computing.
use Rattle.std.specs.Prelude.{refl}
use denote.Hole.Carrier.{hidden}
use Rattle.joint_ir.specs.declared.expr.TNode.TheBlock.{hidden-the_row-TExpr-0}
use Rattle.joint_ir.specs.declared.stmt.SNode.TheBlock.{hidden-the_row-TStmt-0, hidden-the_row-TStmt-1, hidden-the_row-Group-2}
use Rattle.joint_laws.specs.Rows.{WorkedRuns}

pub worked_runs : WorkedRuns
unfolding hidden-the_row-TStmt-0 hidden-the_row-TStmt-1 hidden-the_row-Group-2 hidden-the_row-TExpr-0 hidden
worked_runs = record {
  two_edges = refl;
  out_of_frames = refl;
  checked_bound = refl;
  three_turns = refl;
  third_turn = refl;
  frames_first = refl;
  turns_first = refl;
  driven = refl;
  not_driven = refl;
  any_count = refl;
  overflow = refl;
  no_choices = refl;
  wrapped = refl;
  shift = refl;
  division = refl;
  quotient = refl;
  bounds = refl;
  elements = refl;
  recursion = refl;
  any_value = refl;
  assumption_fails = refl;
  switch = refl;
  unknown_quotient = refl;
  known_quotient = refl;
  unknown_word = refl;
}
