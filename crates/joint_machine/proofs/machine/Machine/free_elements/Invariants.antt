use Rattle.std.proofs.Common.{◌≡◌, ◌-◌}
use Rattle.joint_ir.specs.declared.expr.Slot.TheVariants.{Local}
use Rattle.joint_ir.specs.declared.pair.Pair.{Pair}
use Rattle.joint_ir.specs.Steps.{free_elements, slot_type}
use Rattle.joint_machine.specs.Moments.{IsKept, IsReady, from_here}
use Rattle.joint_machine.proofs.machine.Machine.free_elements.Given as goal

-- the elements from i on are left
abbrev pub invariant-loop-i : goal.invariant-loop-i
invariant-loop-i l = record {
  does : from_here l.fn.self (free_elements l.line l.x l.ty l.count 0) ≡ from_here l.self (free_elements l.line l.x l.ty (l.count - l.i) l.i);
  kept : IsKept l.fn.self l.self;
  ready : (pair : Pair) → slot_type pair.program (Local l.x) ≡ l.ty → IsReady pair l.fn.self → IsReady pair l.self;
}
