use Rattle.std.proofs.Common.{◌+◌, [], take, get_or, refl, sym, subst}
use Rattle.std.proofs.lemmas.List.{get_or_default}
use Rattle.joint_ir.specs.Effects.{draw_all}
use Rattle.unwind_module.specs.Drawing.{AreDrawn}
use Rattle.unwind_module.proofs.Draws.{none_drawn}
use Rattle.unwind_words.proofs.Drawn.{drawn_more}
use Rattle.unwind_words.proofs.draws.draw_all.Goals as goal

pub loop-width-init : goal.loop-width-init
loop-width-init c = subst (λ l. AreDrawn c.args.net.now c.args.net.now c.args.guard (draw_all []) [] l) (sym c.new-ids.ensures) (none_drawn c.args.net.now c.args.guard (draw_all []) c.len.ensures.proper (λ k go. refl))

pub loop-width-preserved : goal.loop-width-preserved
loop-width-preserved c =
    let i = c.loop-width.width-index in
    let ws = c.args.widths.now in
    let w = get_or ws i 0 in
    subst (λ l. AreDrawn c.args.net.now c.draw.new.net c.args.guard (draw_all (take (i + 1) ws)) (take (i + 1) ws) l) (sym c.in_ok-push.ensures.ok)
    (drawn_more c.args.net.now c.loop-width.net c.draw.new.net c.args.guard ws c.loop-width.ids i w c.in_ok-t.t c.loop-width-test.true (get_or_default ws i 0 w c.loop-width-test.true) c.loop-width.invariant c.in_ok-t.ensures)
