use Rattle.std.proofs.Common.{sym, subst, rules}
use Rattle.std.proofs.lemmas.Int.{to_z-of_z}
use mir.Val.{SFits}
use mir.Syntax.{w128}
use Rattle.joint_ir.specs.States.{Store}
use Rattle.joint_value.specs.Evaluable.{KeepsTypes}
use Rattle.joint_value.proofs.Stores.{put_kept}
use Rattle.joint_machine.proofs.machine.Machine.put.Goals as goal

pub returns-clause-ready : goal.returns-clause-ready
returns-clause-ready c = λ pair r range.
    let f : SFits w128 c.args.number = search rules in
    let e = simp to_z-of_z at c.put.ensures in
    record {
      held = subst (λ (s : Store). KeepsTypes pair.program s) (sym e) (put_kept pair.program c.args.self.now.store c.args.slot c.match-index.element c.args.number r.held range);
      view = r.view;
      small = r.small;
    }
