use Rattle.std.proofs.Common.{◌-◌, ◌∙◌, sym, subst, rules}
use Rattle.std.specs.Prelude.{ℤ}
use Rattle.std.proofs.lemmas.Int.{to_z-of_z}
use Rattle.std.proofs.lemmas.Result.{err_from_is_err_and}
use mir.Val.{SFits}
use mir.Syntax.{w128}
use Rattle.joint_ir.specs.declared.ctype.IntType.{IntType}
use Rattle.joint_ir.specs.declared.expr.Slot.TheVariants.{Local}
use Rattle.joint_ir.specs.Types.{InRange}
use Rattle.joint_ir.specs.Steps.{free_elements, slot_type}
use Rattle.joint_value.proofs.Nodes.{moved}
use Rattle.joint_machine.proofs.Flow.{halts_after, ready_same}
use Rattle.joint_machine.proofs.Elements.{free_step, free_halts}
use Rattle.joint_machine.proofs.machine.Machine.free_elements.Goals as goal

pub returns-in_err-n-clause-does : goal.returns-in_err-n-clause-does
returns-in_err-n-clause-does c =
    let a = c.args in
    let p = err_from_is_err_and c.from_residual.result c.from_residual.ensures.1 in
    rw (p.1, p.2)
    (halts_after _ a.self.now c.loop-i.self c.any_number.new.self (free_elements a.line a.x a.ty a.count 0) (free_elements a.line a.x a.ty (a.count - c.loop-i.i) c.loop-i.i)
    c.loop-i.invariant.does
    (free_halts _ c.loop-i.self c.any_number.new.self a.line a.x a.ty a.count c.loop-i.i c.loop-i-test.true c.in_err-n.ensures.finds))

pub loop-i-preserved : goal.loop-i-preserved
loop-i-preserved c =
    let a = c.args in
    let f : SFits w128 c.in_ok-n.n = search rules in
    let stored = simp to_z-of_z at c.in_ok-put.ensures.does in
    record {
      does = c.loop-i.invariant.does
          ∙ free_step c.loop-i.self c.any_number.new.self c.put.new.self a.line a.x a.ty a.count c.loop-i.i c.in_ok-n.n c.loop-i-test.true c.in_ok-n.ensures.finds stored;
      kept = search rules;
      ready = λ pair same r. c.in_ok-put.ensures.ready pair
          (ready_same pair c.loop-i.self c.any_number.new.self c.in_ok-n.ensures.same (c.loop-i.invariant.ready pair same r))
          (moved (λ (v : ℤ). InRange (slot_type pair.program (Local a.x)) v) _ f (subst (λ (t : IntType). InRange t c.in_ok-n.n) (sym same) c.in_ok-n.ensures.range));
    }
