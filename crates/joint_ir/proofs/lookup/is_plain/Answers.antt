use Rattle.std.proofs.Common.{eqb, get_or, ap}
use Rattle.joint_ir.specs.declared.bounds.Limit.{Limit}
use Rattle.joint_ir.specs.Statements.{recursion_prop}
use Rattle.joint_ir.specs.Weighed.{names_function}
use Rattle.joint_ir.proofs.PlainLimits.{told_more}
use Rattle.joint_ir.proofs.lookup.is_plain.Goals as goal

pub loop-limit-preserved : goal.loop-limit-preserved
loop-limit-preserved c =
    let p = c.args.program.now in
    let fn = c.args.function.now in
    told_more (names_function p fn) (λ (limit : Limit). eqb limit.prop.0 (recursion_prop p fn).0) c.args.bounds.now.limits c.as_slice-limit-items.result.now
    c.loop-limit.limit-index _ _ _ c.as_slice-limit-items.ensures c.loop-limit.invariant c.loop-limit-test.true c.is_limit_of.ensures
    (ap (λ own. eqb (get_or {A = Limit} c.as_slice-limit-items.result.now c.loop-limit.limit-index _).prop.0 own.0) c.recursion-own.ensures)
    c.if-is_limit_of-limit.false
