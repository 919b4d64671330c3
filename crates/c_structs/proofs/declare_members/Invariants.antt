use Rattle.std.proofs.Common.{◌≡◌, drop}
use Rattle.c_structs.specs.Mirror.{with_members_of}
use Rattle.c_structs.proofs.declare_members.Given as goal

abbrev pub invariant-loop-i : goal.invariant-loop-i
invariant-loop-i l = with_members_of l.fn.scopes 0 l.members ≡ with_members_of l.scopes l.i (drop l.i l.members)
