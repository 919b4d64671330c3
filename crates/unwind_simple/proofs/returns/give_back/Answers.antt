use Rattle.std.proofs.Common.{sym, subst}
use Rattle.std.specs.Prelude.{Option}
use Rattle.joint_ir.specs.declared.stmt.SNode.{Return}
use Rattle.joint_ir.specs.declared.stmt.TInit.{TInit}
use Rattle.joint_ir.specs.Steps.{return_effect}
use Rattle.joint_ir.specs.WellFormed.{FitsStmt}
use Rattle.unwind_simple.specs.Simple.{MayRun, IsDone, calls_in, setting_of}
use Rattle.unwind_simple.proofs.Returning.{done_nothing}
use Rattle.unwind_simple.proofs.returns.give_back.Goals as goal

pub returns-in-None : goal.returns-in-None
returns-in-None c =
    let a = c.args.at.now in
    λ d inside fits.
    subst (λ (i : Option TInit). IsDone a c.args.net.now c.args.net.now c.args.state.now c.args.state.now c.args.guard c.only.result d.locals d.locals (return_effect (setting_of a) (calls_in a) i)) (sym c.in-None.is)
    (done_nothing a c.args.net.now c.args.state.now c.args.guard c.only.result c.only.ensures c.len.ensures.proper (subst (λ (i : Option TInit). MayRun a c.args.net.now c.args.state.now c.args.guard (λ e. FitsStmt e (Return i))) c.in-None.is c.requires)
    d inside (subst (λ (i : Option TInit). FitsStmt d (Return i)) c.in-None.is fits))

pub returns-in_ok-f-in-Some : goal.returns-in_ok-f-in-Some
returns-in_ok-f-in-Some c =
    let a = c.args.at.now in
    λ d inside fits.
    subst (λ (i : Option TInit). IsDone a c.args.net.now c.give_value.new.net c.args.state.now c.give_value.new.state c.args.guard c.in_ok-f-in-Some.f d.locals d.locals (return_effect (setting_of a) (calls_in a) i)) (sym c.in-Some.is)
    (c.in_ok-f-in-Some.ensures d inside (subst (λ (i : Option TInit). FitsStmt d (Return i)) c.in-Some.is fits))
