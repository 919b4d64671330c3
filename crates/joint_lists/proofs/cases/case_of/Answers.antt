use Rattle.std.proofs.Common.{◌+◌, ◌∙◌, Bool, cond, drop, Some, sym, ap, rules}
use Rattle.std.specs.List.{position_from, list_any}
use Rattle.std.proofs.lemmas.Int.{to_z-of_z}
use Rattle.std.proofs.lemmas.List.{drop_more}
use mir.Val.{SFits}
use mir.Syntax.{w128}
use Rattle.joint_ir.specs.declared.stmt.Group.{Group, out-Group}
use Rattle.joint_ir.specs.Statements.{is_case}
use Rattle.joint_lists.proofs.cases.case_of.Goals as goal

pub returns-then-has_case : goal.returns-then-has_case
returns-then-has_case c =
    let t = λ (g : Group). list_any (is_case c.args.n) (out-Group g).labels in
    let gs = c.args.groups.now in
    let i = c.loop-i.i in
    let f : SFits w128 c.args.n = search rules in
    let passes = simp to_z-of_z at c.has_case.ensures in
    let left = simp to_z-of_z at c.loop-i.invariant in
    sym (left ∙ ap (λ (l : _). position_from t i l) (drop_more gs i c.index-groups-i.result c.loop-i-test.true)
    ∙ ap (λ (b : Bool). cond b (Some i) (position_from t (i + 1) (drop (i + 1) gs))) (ap t (sym c.index-groups-i.is) ∙ sym passes ∙ c.if-has_case.true))
