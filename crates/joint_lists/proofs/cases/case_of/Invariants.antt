use Rattle.std.proofs.Common.{◌≡◌, drop}
use Rattle.std.specs.List.{position_from, list_any}
use Rattle.joint_ir.specs.declared.stmt.Group.{out-Group}
use Rattle.joint_ir.specs.Statements.{is_case}
use Rattle.joint_lists.proofs.cases.case_of.Given as goal

abbrev pub invariant-loop-i : goal.invariant-loop-i
invariant-loop-i l =
    position_from (λ g. list_any (is_case l.n) (out-Group g).labels) 0 l.groups ≡ position_from (λ g. list_any (is_case l.n) (out-Group g).labels) l.i (drop l.i l.groups)
