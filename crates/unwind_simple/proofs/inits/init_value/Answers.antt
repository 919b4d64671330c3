use Rattle.std.proofs.Common.{sym, subst}
use Rattle.joint_ir.specs.declared.stmt.TInit.{TInit}
use Rattle.unwind_simple.specs.Obtaining.{IsObtained}
use Rattle.unwind_simple.proofs.Returning.{obtained_free}
use Rattle.unwind_simple.proofs.inits.init_value.Goals as goal

pub returns-in_ok-t-in-Free : goal.returns-in_ok-t-in-Free
returns-in_ok-t-in-Free c =
    subst (λ (i : TInit). IsObtained c.args.at.now c.args.net.now c.draw.new.net c.args.state.now c.args.ty i c.args.guard c.in_ok-t-in-Free.t) (sym c.in-Free.is)
    (obtained_free c.args.at.now c.args.net.now c.draw.new.net c.args.state.now c.args.ty c.args.guard c.in_ok-t-in-Free.t c.requires.ty c.in_ok-t-in-Free.ensures)
