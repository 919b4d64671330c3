use Rattle.std.proofs.Common.{◌∙◌, sym, ap, subst, rules}
use Rattle.std.specs.Prelude.{ℤ}
use Rattle.std.proofs.lemmas.Int.{to_z-of_z}
use Rattle.std.proofs.lemmas.Result.{err_from_is_err_and, IfOk-weaker}
use mir.Val.{SFits, to_z, of_z}
use mir.Syntax.{w128}
use Rattle.joint_ir.specs.declared.ctype.IntType.{IntType}
use Rattle.joint_ir.specs.Types.{InRange, converted}
use Rattle.joint_ir.specs.Steps.{store_at, update_effect, slot_type}
use Rattle.joint_value.specs.Answers.{HasWidth}
use Rattle.joint_value.proofs.Nodes.{moved}
use Rattle.joint_value.proofs.Numbers.{width_of, converted_in}
use Rattle.joint_value.proofs.Stores.{slot_typed}
use Rattle.joint_machine.specs.Moments.{setting_of}
use Rattle.joint_machine.proofs.Flow.{halts_after, passes_after}
use Rattle.joint_machine.proofs.Values.{update_typed}
use Rattle.joint_machine.proofs.Elements.{update_rest, update_at, update_within, update_indexed, update_placed, update_computed}
use Rattle.joint_machine.proofs.machine.Machine.update.Goals as goal

pub returns-in_err-index-clause-does : goal.returns-in_err-index-clause-does
returns-in_err-index-clause-does c =
    let a = c.args in
    let p = err_from_is_err_and c.from_residual.result c.from_residual.ensures.1 in
    rw (p.1, p.2) (c.in_err-index.ensures.finds (λ i. update_within (setting_of a.at.now) a.target.now a.update.now i))

pub returns-in_err-place-clause-does : goal.returns-in_err-place-clause-does
returns-in_err-place-clause-does c =
    let a = c.args in
    let k = setting_of a.at.now in
    let p = err_from_is_err_and c.from_residual-in_err-place.result c.from_residual-in_err-place.ensures.1 in
    rw (p.1, p.2)
    (halts_after _ a.self.now a.self.now a.self.now (update_effect k a.target.now a.update.now) (update_within k a.target.now a.update.now c.in_ok-index.index)
    (update_indexed a.self.now k a.target.now a.update.now c.in_ok-index.index c.in_ok-index.ensures.finds)
    (c.in_err-place.ensures.finds (λ place. update_at k a.target.now a.update.now place)))

pub converted-old-requires : goal.converted-old-requires
converted-old-requires c = width_of c.args.update.now.ty (update_typed c.requires.update.scope c.args.update.now c.requires.update.holds)

pub updated-requires-clause-range : goal.updated-requires-clause-range
updated-requires-clause-range c =
    let t = c.args.update.now.ty in
    let f : SFits w128 c.converted-old.result = search rules in
    moved (λ (v : ℤ). InRange t v) _ f (subst (λ (v : ℤ). InRange t v) (sym c.converted-old.ensures) (converted_in t _ (update_typed c.requires.update.scope c.args.update.now c.requires.update.holds)))

pub returns-in_err-n-clause-does : goal.returns-in_err-n-clause-does
returns-in_err-n-clause-does c =
    let a = c.args in
    let k = setting_of a.at.now in
    let t = a.target.now in
    let u = a.update.now in
    let f : SFits w128 c.converted-old.result = search rules in
    let g : SFits w128 c.element.result = search rules in
    let old = to_z w128 (of_z w128 c.converted-old.result) in
    let p = err_from_is_err_and c.from_residual-in_err-n.result c.from_residual-in_err-n.ensures.1 in
    rw (p.1, p.2)
    (halts_after _ a.self.now a.self.now a.self.now (update_effect k t u) (update_rest k t u c.in_ok-place.place old)
    (update_indexed a.self.now k t u c.in_ok-index.index c.in_ok-index.ensures.finds
    ∙ update_placed a.self.now k t u c.in_ok-index.index c.in_ok-place.place old c.in_ok-place.ensures.finds
    (to_z-of_z w128 _ f ∙ c.converted-old.ensures ∙ ap (λ (x : ℤ). converted u.ty x) (to_z-of_z w128 _ g ∙ c.element.ensures)))
    (c.in_err-n.ensures.finds (λ n s c'. store_at t.place.line t.slot c.in_ok-place.place (converted (slot_type a.at.now.pair.now.program t.slot) n) s c')))

pub converted-requires : goal.converted-requires
converted-requires c = subst (λ (t : IntType). HasWidth t) (sym c.slot_type-ty.ensures) (width_of _ (slot_typed c.args.at.now.pair.now.program c.args.target.now.slot c.requires.well.program))

pub returns-clause-does : goal.returns-clause-does
returns-clause-does c =
    let a = c.args in
    let k = setting_of a.at.now in
    let t = a.target.now in
    let u = a.update.now in
    let f : SFits w128 c.converted-old.result = search rules in
    let g : SFits w128 c.element.result = search rules in
    let h : SFits w128 c.converted.result = search rules in
    let i : SFits w128 c.in_ok-n.n = search rules in
    let old = to_z w128 (of_z w128 c.converted-old.result) in
    let v = to_z w128 (of_z w128 c.converted.result) in
    passes_after c.put.result a.self.now a.self.now c.put.new.self (update_effect k t u) (store_at t.place.line t.slot c.in_ok-place.place v)
    (update_indexed a.self.now k t u c.in_ok-index.index c.in_ok-index.ensures.finds
    ∙ update_placed a.self.now k t u c.in_ok-index.index c.in_ok-place.place old c.in_ok-place.ensures.finds
    (to_z-of_z w128 _ f ∙ c.converted-old.ensures ∙ ap (λ (x : ℤ). converted u.ty x) (to_z-of_z w128 _ g ∙ c.element.ensures))
    ∙ update_computed a.self.now k t u c.in_ok-place.place old c.in_ok-n.n v c.in_ok-n.ensures.finds
    (to_z-of_z w128 _ h ∙ c.converted.ensures ∙ ap (λ (ty : IntType). converted ty (to_z w128 (of_z w128 c.in_ok-n.n))) c.slot_type-ty.ensures
    ∙ ap (λ (x : ℤ). converted (slot_type a.at.now.pair.now.program t.slot) x) (to_z-of_z w128 _ i)))
    c.put.ensures.does

pub returns-clause-ready : goal.returns-clause-ready
returns-clause-ready c =
    let a = c.args in
    let t = slot_type a.at.now.pair.now.program a.target.now.slot in
    let h : SFits w128 c.converted.result = search rules in
    IfOk-weaker c.put.result _ _ (λ x ready. ready a.at.now.pair.now c.requires.ready
    (moved (λ (v : ℤ). InRange t v) _ h
    (subst (λ (v : ℤ). InRange t v) (sym (c.converted.ensures ∙ ap (λ (ty : IntType). converted ty (to_z w128 (of_z w128 c.in_ok-n.n))) c.slot_type-ty.ensures))
    (converted_in t _ (slot_typed a.at.now.pair.now.program a.target.now.slot c.requires.well.program)))))
    c.put.ensures.ready
