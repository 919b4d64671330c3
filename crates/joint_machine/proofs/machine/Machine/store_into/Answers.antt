use Rattle.std.proofs.Common.{rules}
use Rattle.std.proofs.lemmas.Int.{to_z-of_z}
use Rattle.std.proofs.lemmas.Result.{err_from_is_err_and}
use mir.Val.{SFits}
use mir.Syntax.{w128}
use Rattle.joint_ir.specs.Steps.{store_at, within_bounds}
use Rattle.joint_machine.specs.Moments.{setting_of}
use Rattle.joint_machine.proofs.Flow.{passes_after}
use Rattle.joint_machine.proofs.machine.Machine.store_into.Goals as goal

pub returns-in_err-place-clause-does : goal.returns-in_err-place-clause-does
returns-in_err-place-clause-does c =
    let a = c.args in
    let p = err_from_is_err_and c.from_residual.result c.from_residual.ensures.1 in
    rw (p.1, p.2) (c.in_err-place.ensures.finds (λ i s c'. store_at a.target.now.place.line a.target.now.slot i a.number s c'))

pub returns-clause-does : goal.returns-clause-does
returns-clause-does c =
    let a = c.args in
    let f : SFits w128 a.number = search rules in
    let stored = simp to_z-of_z at c.put.ensures.does in
    passes_after c.put.result a.self.now a.self.now c.put.new.self
    (λ s c'. within_bounds (setting_of a.at.now) a.target.now a.index s c' (λ i. store_at a.target.now.place.line a.target.now.slot i a.number s c'))
    (store_at a.target.now.place.line a.target.now.slot c.in_ok-place.place a.number)
    (c.in_ok-place.ensures.finds (λ i s c'. store_at a.target.now.place.line a.target.now.slot i a.number s c'))
    stored
