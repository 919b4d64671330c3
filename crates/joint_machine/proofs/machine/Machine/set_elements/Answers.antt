use Rattle.std.proofs.Common.{◌-◌, ◌∙◌, drop, rules}
use Rattle.std.specs.Prelude.{ℤ}
use Rattle.std.proofs.lemmas.Int.{to_z-of_z}
use Rattle.std.proofs.lemmas.Result.{err_from_is_err_and}
use mir.Val.{SFits}
use mir.Syntax.{w128}
use Rattle.joint_ir.specs.declared.expr.Slot.TheVariants.{Local}
use Rattle.joint_ir.specs.Types.{InRange}
use Rattle.joint_ir.specs.Steps.{set_elements, slot_type}
use Rattle.joint_value.proofs.Nodes.{moved}
use Rattle.joint_machine.specs.Moments.{setting_of}
use Rattle.joint_machine.proofs.Flow.{halts_after}
use Rattle.joint_machine.proofs.Elements.{set_step, set_halts}
use Rattle.joint_machine.proofs.machine.Machine.set_elements.Goals as goal

pub returns-in_err-n-clause-does : goal.returns-in_err-n-clause-does
returns-in_err-n-clause-does c =
    let a = c.args in
    let k = setting_of a.at.now in
    let p = err_from_is_err_and c.from_residual.result c.from_residual.ensures.1 in
    rw (p.1, p.2)
    (halts_after _ a.self.now c.loop-i.self c.loop-i.self (set_elements k a.line a.x a.count 0 a.es.now) (set_elements k a.line a.x (a.count - c.loop-i.i) c.loop-i.i (drop c.loop-i.i a.es.now))
    c.loop-i.invariant.does
    (set_halts _ c.loop-i.self c.loop-i.self k a.line a.x a.count c.loop-i.i a.es.now c.loop-i-test.true c.in_err-n.ensures.finds))

pub loop-i-preserved : goal.loop-i-preserved
loop-i-preserved c =
    let a = c.args in
    let k = setting_of a.at.now in
    let f : SFits w128 c.in_ok-n.n = search rules in
    let stored = simp to_z-of_z at c.in_ok-put.ensures.does in
    record {
      does = c.loop-i.invariant.does
          ∙ set_step c.loop-i.self c.put.new.self k a.line a.x a.count c.loop-i.i a.es.now c.in_ok-n.n c.loop-i-test.true c.in_ok-n.ensures.finds stored;
      kept = search rules;
      ready = c.in_ok-put.ensures.ready a.at.now.pair.now c.loop-i.invariant.ready
          (moved (λ (v : ℤ). InRange (slot_type a.at.now.pair.now.program (Local a.x)) v) _ f
          (c.in_ok-n.ensures.range (slot_type a.at.now.pair.now.program (Local a.x)) c.requires.types));
    }
