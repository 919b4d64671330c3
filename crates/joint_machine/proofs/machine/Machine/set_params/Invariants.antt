use Rattle.std.proofs.Common.{◌≡◌, ◌+◌, drop}
use Rattle.joint_ir.specs.declared.pair.Pair.{Pair}
use Rattle.joint_ir.specs.Statements.{set_params}
use Rattle.joint_machine.specs.Moments.{IsKept, IsReady, AreParams, from_here}
use Rattle.joint_machine.proofs.machine.Machine.set_params.Given as goal

-- the parameters from x on are left
abbrev pub invariant-loop-n : goal.invariant-loop-n
invariant-loop-n l = record {
  place : l.x ≡ l.first + l.n-index;
  does : from_here l.fn.self (set_params l.line l.first l.args) ≡ from_here l.self (set_params l.line l.x (drop l.n-index l.args));
  kept : IsKept l.fn.self l.self;
  params : (pair : Pair) → AreParams pair.program l.first l.args → AreParams pair.program l.x (drop l.n-index l.args);
  ready : (pair : Pair) → AreParams pair.program l.first l.args → IsReady pair l.fn.self → IsReady pair l.self;
}
