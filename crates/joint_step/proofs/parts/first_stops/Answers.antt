use Rattle.std.proofs.Common.{◌≡◌, Bool, true, sym, subst, rules}
use Rattle.joint_ir.specs.declared.stmt.TLoop.{out-TLoop}
use Rattle.joint_ir.specs.Steps.{rows_in}
use Rattle.joint_ir.specs.Statements.{condition_value}
use Rattle.joint_machine.specs.Moments.{Finds, setting_of}
use Rattle.joint_step.specs.Parts.{first_tested}
use Rattle.joint_step.proofs.parts.first_stops.Goals as goal

pub returns : goal.returns
returns c =
    let m = c.args.machine.now in
    let k = setting_of c.args.at.now in
    let tests : (out-TLoop c.args.one.now).tests_first ≡ true = search rules in
    record {
      finds = subst (λ (t : Bool). Finds c.stops.result m m (λ go s c'. first_tested t (condition_value (rows_in k s) (out-TLoop c.args.one.now).cond) c' (λ b. go b s c')))
          (sym tests) c.stops.ensures.finds;
    }
