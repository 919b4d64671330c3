use Rattle.std.proofs.Common.{◌<◌, List, [], ◌∷◌, ◌++◌, ℤ, length, ap, ◌∙◌, le_refl, arith}
use Rattle.joint_ir.specs.States.{row_at}
use Rattle.joint_value.proofs.Elements.{no_part, part_more, part_whole}
use Rattle.joint_value.proofs.store.Rows.part.Goals as goal

pub loop-i-init : goal.loop-i-init
loop-i-init c = c.new-rows.ensures ∙ no_part c.args.self.now c.args.first c.args.first (le_refl c.args.first)

pub loop-i-preserved : goal.loop-i-preserved
loop-i-preserved c =
    let there : c.loop-i.i < length c.args.self.now = omega (arith, c.min-stop.ensures, c.len.ensures, c.loop-i-test.true) in
    c.in_ok-push.ensures.ok ∙ ap (λ (row : List ℤ). c.loop-i.rows ++ row ∷ []) (c.in_ok-from_slice.ensures.items ∙ c.row.ensures)
    ∙ ap (λ (rows : List (List ℤ)). rows ++ row_at c.args.self.now c.loop-i.i ∷ []) c.loop-i.invariant
    ∙ part_more c.args.self.now c.args.first c.loop-i.i c.loop-i.auto.i there

pub returns : goal.returns
returns c =
    let rows = c.args.self.now in
    c.loop-i.invariant
    ∙ part_whole rows c.args.first c.args.end c.loop-i.i c.requires (omega (arith, c.min-stop.ensures, c.len.ensures, c.loop-i-test.false))
    (λ le. let most = c.loop-i.auto.i-end (omega (arith, le, c.min-stop.ensures, c.len.ensures)) in omega (arith, most, c.min-stop.ensures, c.len.ensures))
