use Rattle.std.proofs.Common.{◌+◌, ◌<◌, [], None, length, take, get_or, refl, sym, subst, arith}
use Rattle.std.proofs.lemmas.List.{get_or_default}
use Rattle.joint_ir.specs.Runs.{draw_registers}
use Rattle.unwind_state.specs.declared.state.Guard.TheVariants.{Always}
use Rattle.joint_view.proofs.Fitting.{firsts_length, first_below}
use Rattle.unwind_module.specs.Drawing.{AreDrawn}
use Rattle.unwind_module.proofs.Draws.{none_drawn}
use Rattle.unwind_words.proofs.Drawn.{registers_more, all_registers}
use Rattle.unwind_words.proofs.draws.draw_registers.Goals as goal

pub loop-k-init : goal.loop-k-init
loop-k-init c = subst (λ l. AreDrawn c.args.net.now c.args.net.now Always (draw_registers [] []) [] l) (sym c.new-ids.ensures) (none_drawn c.args.net.now Always (draw_registers [] []) c.len.ensures.proper (λ k go. refl))

pub offset_bounds-firsts-k : goal.offset_bounds-firsts-k
offset_bounds-firsts-k c = omega (arith, firsts_length c.args.firsts.now c.args.widths.now c.requires.firsts)

pub bounds-firsts-k : goal.bounds-firsts-k
bounds-firsts-k c = omega (arith, firsts_length c.args.firsts.now c.args.widths.now c.requires.firsts)

pub first_word-requires-clause-first : goal.first_word-requires-clause-first
first_word-requires-clause-first c = first_below c.args.firsts.now c.args.widths.now c.loop-k.k None c.requires.firsts c.loop-k-test.true

pub loop-k-preserved : goal.loop-k-preserved
loop-k-preserved c =
    let k = c.loop-k.k in
    let fs = c.args.firsts.now in
    let ws = c.args.widths.now in
    let same = firsts_length fs ws c.requires.firsts in
    let there : k < length fs = omega (arith, same, c.loop-k-test.true) in
    let f = get_or fs k None in
    let w = get_or ws k 0 in
    subst (λ l. AreDrawn c.args.net.now c.first_word.new.net Always (draw_registers (take (k + 1) fs) (take (k + 1) ws)) (take (k + 1) ws) l) (sym c.in_ok-push.ensures.ok)
    (registers_more c.args.net.now c.loop-k.net c.first_word.new.net fs ws c.loop-k.ids k f w c.in_ok-t.t c.loop-k-test.true same (get_or_default fs k None f there) (get_or_default ws k 0 w c.loop-k-test.true) c.loop-k.invariant c.in_ok-t.ensures)

pub returns : goal.returns
returns c = all_registers c.args.net.now c.loop-k.net c.args.firsts.now c.args.widths.now c.loop-k.ids c.loop-k.k (omega (arith, c.loop-k-test.false)) (firsts_length c.args.firsts.now c.args.widths.now c.requires.firsts) c.loop-k.invariant
