use Rattle.std.proofs.Common.{◌≡◌, drop}
use Rattle.std.specs.List.{position_from, list_any}
use Rattle.joint_ir.specs.declared.stmt.Group.{out-Group}
use Rattle.joint_ir.specs.Statements.{is_default}
use Rattle.switch_guards.proofs.entries.default_of.Given as goal

abbrev pub invariant-loop-i : goal.invariant-loop-i
invariant-loop-i l =
    position_from (λ g. list_any is_default (out-Group g).labels) 0 l.groups ≡ position_from (λ g. list_any is_default (out-Group g).labels) l.i (drop l.i l.groups)
