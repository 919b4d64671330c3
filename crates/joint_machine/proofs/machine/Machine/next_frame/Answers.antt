use Rattle.std.proofs.Common.{◌+◌, refl, subst}
use Rattle.std.proofs.lemmas.Result.{err_from_is_err_and}
use Rattle.joint_ir.specs.Effects.{Effect}
use Rattle.joint_ir.specs.Steps.{next_frame}
use Rattle.joint_machine.specs.Moments.{setting_of, state_of, left_of}
use Rattle.joint_machine.proofs.Moves.{IsFilled, halts_here, moves_passes, moved_ready, unmeasured_filled, frame_filled, frame_before}
use Rattle.joint_machine.proofs.machine.Machine.next_frame.Goals as goal

pub returns-in_err-moved-clause-does : goal.returns-in_err-moved-clause-does
returns-in_err-moved-clause-does c =
    let m = c.args.self.now in
    let k = setting_of c.args.at.now in
    let p = err_from_is_err_and c.from_residual.result c.from_residual.ensures.1 in
    let h = simp c.as_slice.ensures at (c.in_err-moved.ensures.halts k (state_of m) (record { pair = refl; view = refl }) refl refl) in
    rw (p.1, p.2) (halts_here _ m (next_frame k c.args.prop) h)

pub one_more-edges-requires : goal.one_more-edges-requires
one_more-edges-requires c =
    let m = c.args.self.now in
    let k = setting_of c.args.at.now in
    frame_before k c.args.prop (state_of m) _ _ _ _ (c.in_ok-moved.ensures.moves k (state_of m) (record { pair = refl; view = refl }) refl refl)

pub returns-clause-does : goal.returns-clause-does
returns-clause-does c =
    let m = c.args.self.now in
    let k = setting_of c.args.at.now in
    let is = simp c.as_slice.ensures at (c.in_ok-moved.ensures.moves k (state_of m) (record { pair = refl; view = refl }) refl refl) in
    let state = simp c.one_more-edges.ensures at c.move_to.ensures.state in
    moves_passes c.move_to.result m c.move_to.new.self (next_frame k c.args.prop) (m.edges + 1) c.in_ok-moved.moved is
    state c.move_to.ensures.left c.move_to.ensures.events c.move_to.ensures.memory

pub returns-clause-ready : goal.returns-clause-ready
returns-clause-ready c =
    let m = c.args.self.now in
    let k = setting_of c.args.at.now in
    let is = simp c.as_slice.ensures at (c.in_ok-moved.ensures.moves k (state_of m) (record { pair = refl; view = refl }) refl refl) in
    let state = simp c.one_more-edges.ensures at c.move_to.ensures.state in
    moved_ready c.move_to.result c.args.at.now.pair.now m c.move_to.new.self (m.edges + 1) c.in_ok-moved.moved c.requires.well.program
    (subst (λ (e : Effect). IsFilled c.args.at.now.pair.now e) is (unmeasured_filled c.args.at.now.pair.now (next_frame k c.args.prop (state_of m) (left_of m)) (frame_filled k c.args.prop (state_of m) (left_of m))))
    c.in_ok-moved.ensures.proper c.requires.ready state
