use Rattle.std.proofs.Common.{refl}
use Rattle.joint_ir.specs.declared.program.Function.{Function}
use Rattle.bind_struct.specs.Binding.{body_stored, functions_stored}
use Rattle.bind_struct.specs.Stores.{stores_of}
use Rattle.bind_struct.proofs.Storing.{one_more}
use Rattle.bind_struct.proofs.stores.functions.Goals as goal

pub loop-f-preserved : goal.loop-f-preserved
loop-f-preserved c =
    one_more (λ (fn : Function). body_stored (stores_of c.args.at.now) fn.body) (functions_stored (stores_of c.args.at.now)) (λ x xs. refl) c.args.functions.now c.loop-f.f-index c.f-item.result _ _ _
    c.loop-f-test.true c.f-item.is c.loop-f.invariant c.function.ensures
