use Rattle.std.proofs.Common.{◌≡◌, ◌++◌, length, drop}
use Rattle.joint_ir.specs.Views.{changes}
use Rattle.joint_view.proofs.seen.changes.Given as goal

abbrev pub invariant-loop-x : goal.invariant-loop-x
invariant-loop-x l =
    l.list ++ changes (drop (length l.yielded) l.before) (drop (length l.yielded) l.after) ≡ changes l.before l.after
