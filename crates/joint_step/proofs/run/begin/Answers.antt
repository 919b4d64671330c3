use Rattle.std.proofs.Common.{◌≡◌, sym, subst, rules}
use Rattle.joint_ir.specs.States.{Store}
use Rattle.joint_value.specs.Evaluable.{KeepsTypes}
use Rattle.joint_view.specs.Moves.{first_state}
use Rattle.joint_step.proofs.Runs.{begun_kept, zero_small}
use Rattle.joint_step.proofs.run.begin.Goals as goal

pub returns-clause-ready : goal.returns-clause-ready
returns-clause-ready c =
    let p = c.args.pair.now in
    let b = c.in_ok-begun.begun in
    let store : c.new.result ≡ (first_state p b).store = search rules in
    record {
      held = subst (λ (s : Store). KeepsTypes p.program s) (sym store) (begun_kept p c.as_slice.result.now b c.requires.program c.in_ok-begun.ensures.begun);
      view = c.in_ok-begun.ensures.proper;
      small = zero_small;
    }
