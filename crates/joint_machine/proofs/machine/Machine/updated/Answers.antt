use Rattle.std.proofs.Common.{rules}
use Rattle.std.specs.Prelude.{ℤ}
use Rattle.std.proofs.lemmas.Int.{to_z-of_z}
use Rattle.std.proofs.lemmas.Result.{err_from_is_err_and}
use mir.Val.{SFits, to_z, of_z}
use mir.Syntax.{w128}
use Rattle.joint_ir.specs.Values.{binary_value}
use Rattle.joint_ir.specs.Steps.{rows_in, right_value}
use Rattle.joint_ir.specs.Effects.{with_value}
use Rattle.joint_ir.specs.WellFormed.{right_type}
use Rattle.joint_value.specs.Answers.{IsSmall, CanOperate}
use Rattle.joint_value.proofs.Nodes.{moved}
use Rattle.joint_value.proofs.Numbers.{small_of, width_of}
use Rattle.joint_value.proofs.Ranges.{can_operate}
use Rattle.joint_machine.specs.Moments.{setting_of}
use Rattle.joint_machine.proofs.Flow.{finds_after, found_value}
use Rattle.joint_machine.proofs.Values.{update_typed, right_small}
use Rattle.joint_machine.proofs.machine.Machine.updated.Goals as goal

pub returns-in_err-right : goal.returns-in_err-right
returns-in_err-right c =
    let u = c.args.update.now in
    let p = err_from_is_err_and c.from_residual.result c.from_residual.ensures.1 in
    record { finds = rw (p.1, p.2) (λ go. c.in_err-right.ensures.finds (λ y s c'. with_value (binary_value u.op u.ty u.division u.other c.args.old y) c' (λ n. go n s c'))) }

pub binary-requires-clause-x : goal.binary-requires-clause-x
binary-requires-clause-x c =
    let u = c.args.update.now in
    let g : SFits w128 c.args.old = search rules in
    moved IsSmall _ g (small_of u.ty c.args.old (update_typed c.requires.fits.scope u c.requires.fits.holds) c.requires.range)

pub binary-requires-clause-y : goal.binary-requires-clause-y
binary-requires-clause-y c =
    let u = c.args.update.now in
    let f : SFits w128 c.in_ok-right.right = search rules in
    moved IsSmall _ f (right_small c.args.at.now.pair.now c.args.self.now c.args.at.now.here u c.in_ok-right.right c.requires.fits c.requires.well c.requires.ready
    (c.in_ok-right.ensures.range u.ty (update_typed c.requires.fits.scope u c.requires.fits.holds)))

pub binary-requires-clause-can : goal.binary-requires-clause-can
binary-requires-clause-can c =
    let u = c.args.update.now in
    let f : SFits w128 c.in_ok-right.right = search rules in
    let g : SFits w128 c.args.old = search rules in
    moved (λ (x : ℤ). CanOperate u.op u.ty u.division u.other x (to_z w128 (of_z w128 c.in_ok-right.right))) _ g
    (moved (λ (y : ℤ). CanOperate u.op u.ty u.division u.other c.args.old y) _ f
    (can_operate c.requires.fits.scope.program u.op u.ty u.ty (right_type u.ty u.right) u.division u.other c.args.old c.in_ok-right.right
    c.requires.fits.holds.operator c.requires.range (c.in_ok-right.ensures.range u.ty (update_typed c.requires.fits.scope u c.requires.fits.holds))))

pub returns : goal.returns
returns c =
    let u = c.args.update.now in
    let f : SFits w128 c.in_ok-right.right = search rules in
    let g : SFits w128 c.args.old = search rules in
    let e = simp to_z-of_z at c.binary.ensures in
    record {
      finds = finds_after c.or_break.result c.args.self.now c.args.self.now c.args.self.now
          (λ go s c'. with_value (right_value (rows_in (setting_of c.args.at.now) s) u.right) c' (λ y. with_value (binary_value u.op u.ty u.division u.other c.args.old y) c' (λ n. go n s c')))
          (λ go s c'. with_value (binary_value u.op u.ty u.division u.other c.args.old c.in_ok-right.right) c' (λ n. go n s c'))
          (λ go. c.in_ok-right.ensures.finds (λ y s c'. with_value (binary_value u.op u.ty u.division u.other c.args.old y) c' (λ n. go n s c')))
          (found_value c.binary.result c.or_break.result (binary_value u.op u.ty u.division u.other c.args.old c.in_ok-right.right) c.args.self.now e c.or_break.ensures.number c.or_break.ensures.breaks);
    }

pub binary-requires-clause-ty : goal.binary-requires-clause-ty
binary-requires-clause-ty c = width_of c.args.update.now.ty (update_typed c.requires.fits.scope c.args.update.now c.requires.fits.holds)
