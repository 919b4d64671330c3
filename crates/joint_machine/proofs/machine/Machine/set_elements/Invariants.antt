use Rattle.std.proofs.Common.{◌≡◌, ◌-◌, drop}
use Rattle.joint_ir.specs.Steps.{set_elements}
use Rattle.joint_machine.specs.Moments.{IsKept, IsReady, from_here, setting_of}
use Rattle.joint_machine.proofs.machine.Machine.set_elements.Given as goal

-- the elements from i on are left
abbrev pub invariant-loop-i : goal.invariant-loop-i
invariant-loop-i l = record {
  does : from_here l.fn.self (set_elements (setting_of l.at) l.line l.x l.count 0 l.es) ≡
      from_here l.self (set_elements (setting_of l.at) l.line l.x (l.count - l.i) l.i (drop l.i l.es));
  kept : IsKept l.fn.self l.self;
  ready : IsReady l.at.pair.now l.self;
}
