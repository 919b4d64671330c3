use Rattle.std.proofs.Common.{◌∙◌, get_or, rules, arith}
use Rattle.std.specs.Prelude.{ℤ, pos}
use Rattle.std.proofs.lemmas.Int.{to_z-of_z}
use mir.Val.{SFits}
use mir.Syntax.{w128}
use Rattle.joint_ir.specs.declared.expr.Slot.TheVariants.{Local}
use Rattle.joint_ir.specs.Types.{InRange}
use Rattle.joint_ir.specs.Steps.{slot_type}
use Rattle.joint_value.proofs.Nodes.{moved}
use Rattle.joint_machine.proofs.Elements.{param_step, params_left}
use Rattle.joint_machine.proofs.machine.Machine.set_params.Goals as goal

pub loop-n-preserved : goal.loop-n-preserved
loop-n-preserved c =
    let a = c.args in
    let i = c.loop-n.n-index in
    let f : SFits w128 (get_or a.args.now i (pos 0)) = search rules in
    let stored = simp to_z-of_z at c.in_ok-put.ensures.does in
    record {
      place = omega arith;
      does = c.loop-n.invariant.does ∙ param_step c.loop-n.self c.put.new.self a.line c.loop-n.x i a.args.now c.loop-n-test.true stored;
      kept = search rules;
      params = λ pair h. (params_left pair.program c.loop-n.x i a.args.now c.loop-n-test.true (c.loop-n.invariant.params pair h)).1;
      ready = λ pair h r. c.in_ok-put.ensures.ready pair (c.loop-n.invariant.ready pair h r)
          (moved (λ (v : ℤ). InRange (slot_type pair.program (Local c.loop-n.x)) v) _ f
          (params_left pair.program c.loop-n.x i a.args.now c.loop-n-test.true (c.loop-n.invariant.params pair h)).0);
    }
