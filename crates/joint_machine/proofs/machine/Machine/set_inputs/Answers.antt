use Rattle.std.proofs.Common.{◌∙◌, refl, sym, subst}
use Rattle.std.proofs.lemmas.Result.{err_from_is_err_and}
use Rattle.joint_ir.specs.Effects.{Effect}
use Rattle.joint_ir.specs.Steps.{set_inputs}
use Rattle.joint_machine.specs.Moments.{setting_of, state_of, left_of}
use Rattle.joint_machine.proofs.Moves.{IsFilled, halts_here, moves_passes, moved_ready, unmeasured_filled, inputs_filled}
use Rattle.joint_machine.proofs.machine.Machine.set_inputs.Goals as goal

pub returns-in_err-moved-clause-does : goal.returns-in_err-moved-clause-does
returns-in_err-moved-clause-does c =
    let m = c.args.self.now in
    let k = setting_of c.args.at.now in
    let p = err_from_is_err_and c.from_residual.result c.from_residual.ensures.1 in
    let h = simp c.as_slice-2.ensures at (c.in_err-moved.ensures.halts k (state_of m) (record { pair = refl; view = refl }) (sym (c.as_slice.ensures ∙ c.members.ensures))) in
    rw (p.1, p.2) (halts_here _ m (set_inputs k) h)

pub returns-clause-does : goal.returns-clause-does
returns-clause-does c =
    let m = c.args.self.now in
    let k = setting_of c.args.at.now in
    let is = simp c.as_slice-2.ensures at (c.in_ok-moved.ensures.moves k (state_of m) (record { pair = refl; view = refl }) (sym (c.as_slice.ensures ∙ c.members.ensures))) in
    moves_passes c.move_to.result m c.move_to.new.self (set_inputs k) m.edges c.in_ok-moved.moved is
    c.move_to.ensures.state c.move_to.ensures.left c.move_to.ensures.events c.move_to.ensures.memory

pub returns-clause-ready : goal.returns-clause-ready
returns-clause-ready c =
    let m = c.args.self.now in
    let k = setting_of c.args.at.now in
    let is = simp c.as_slice-2.ensures at (c.in_ok-moved.ensures.moves k (state_of m) (record { pair = refl; view = refl }) (sym (c.as_slice.ensures ∙ c.members.ensures))) in
    moved_ready c.move_to.result c.args.at.now.pair.now m c.move_to.new.self m.edges c.in_ok-moved.moved c.requires.well.program
    (subst (λ (e : Effect). IsFilled c.args.at.now.pair.now e) is (unmeasured_filled c.args.at.now.pair.now (set_inputs k (state_of m) (left_of m)) (inputs_filled k (state_of m) (left_of m))))
    c.in_ok-moved.ensures.proper c.requires.ready c.move_to.ensures.state
