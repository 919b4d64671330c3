use Rattle.std.proofs.Common.{◌∙◌, ◌++◌, ◌+◌, List, drop, take, sym, ap, subst, rules}
use Rattle.std.specs.Prelude.{ℤ, map}
use Rattle.std.proofs.lemmas.List.{append-nil, at_drop_all}
use Rattle.std.proofs.lemmas.Int.{to_z-of_z}
use Rattle.std.proofs.lemmas.Result.{err_from_is_err_and}
use mir.Val.{SFits}
use mir.Syntax.{w128}
use Rattle.joint_ir.specs.declared.expr.TExpr.{TExpr}
use Rattle.joint_ir.specs.Types.{InRange}
use Rattle.joint_ir.specs.States.{rows_of}
use Rattle.joint_ir.specs.Steps.{rows_in}
use Rattle.joint_ir.specs.Values.{value_of}
use Rattle.joint_ir.specs.Effects.{Effect, preceded, with_values}
use Rattle.joint_view.specs.Halts.{unmeasured}
use Rattle.joint_machine.specs.Moments.{InTypes, setting_of, state_of, left_of, told_of}
use Rattle.joint_machine.proofs.Arguments.{values_more, values_broken, types_next}
use Rattle.joint_machine.proofs.Flow.{broken_halts}
use Rattle.joint_machine.proofs.machine.Machine.arguments.Goals as goal

pub returns-in_err-n-clause-finds : goal.returns-in_err-n-clause-finds
returns-in_err-n-clause-finds c =
    let a = c.args in
    let m = a.self.now in
    let rows = rows_of a.at.now.bounds.now.frames m.store in
    let v = c.in_err-n.ensures.value in
    let p = err_from_is_err_and c.from_residual.result c.from_residual.ensures.1 in
    rw (p.1, p.2)
    (λ go. broken_halts _ m (λ s c'. with_values (rows_in (setting_of a.at.now) s) a.args.now c' (λ ns. go ns s c')) v.0 v.1
    (c.loop-e.invariant.finds (left_of m) (λ ns. go ns (state_of m) (left_of m))
    ∙ values_broken rows a.args.now c.loop-e.e-index c.e-item.result v.0 (left_of m) (λ ns. go (c.loop-e.numbers ++ ns) (state_of m) (left_of m)) c.loop-e-test.true
    (sym (ap (λ (e : TExpr). value_of rows e) c.e-item.is) ∙ v.2)))

pub loop-e-preserved : goal.loop-e-preserved
loop-e-preserved c =
    let a = c.args in
    let i = c.loop-e.e-index in
    let n = c.in_ok-n.n in
    let rows = rows_of a.at.now.bounds.now.frames a.self.now.store in
    let f : SFits w128 c.in_ok-n.n = search rules in
    let pushed = simp to_z-of_z at c.in_ok-push.ensures.ok in
    record {
      finds = λ c' go. c.loop-e.invariant.finds c' go
          ∙ values_more rows a.args.now i c.e-item.result c.loop-e.numbers n c' go c.loop-e-test.true (sym (ap (λ (e : TExpr). value_of rows e) c.e-item.is) ∙ c.in_ok-n.ensures.value)
          ∙ ap (λ (xs : List ℤ). with_values rows (drop (i + 1) a.args.now) c' (λ ns. go (xs ++ ns))) (sym pushed);
      ranges = subst (λ (xs : List ℤ). InTypes (map (λ (e : TExpr). e.ty) (take (i + 1) a.args.now)) xs) (sym pushed)
          (types_next a.args.now i c.e-item.result c.loop-e.numbers n c.loop-e-test.true c.loop-e.invariant.ranges
          (subst (λ (e : TExpr). InRange e.ty n) c.e-item.is c.in_ok-n.ensures.range));
    }

pub returns-clause-finds : goal.returns-clause-finds
returns-clause-finds c = λ go.
    let a = c.args in
    let m = a.self.now in
    let rows = rows_of a.at.now.bounds.now.frames m.store in
    ap (λ (e : Effect). preceded (told_of m) (unmeasured e))
    (c.loop-e.invariant.finds (left_of m) (λ ns. go ns (state_of m) (left_of m))
    ∙ at_drop_all (λ (xs : List TExpr). with_values rows xs (left_of m) (λ ns. go (c.loop-e.numbers ++ ns) (state_of m) (left_of m))) a.args.now c.loop-e.e-index c.loop-e-test.false
    ∙ ap (λ (ns : List ℤ). go ns (state_of m) (left_of m)) (append-nil c.loop-e.numbers))
