use Rattle.std.proofs.Common.{sym, ap, subst, arith}
use Rattle.std.proofs.lemmas.Grind.{common_steps}
use Rattle.v_views.specs.declared.Target.{the_lemmas}
use Rattle.flat_values.specs.Fits.{shapes_of, shape_or}
use Rattle.flat_writes.specs.Writes.{FitsTarget}
use Rattle.flat_writes.proofs.Parts.{fits_concatenation, there, found}
use Rattle.target_parts.proofs.Rows.{adds_concatenation, adds_one, loop_more}
use Rattle.target_parts.proofs.targets.+parts.Goals as goal

pub target_parts-row_parts-requires : goal.target_parts-row_parts-requires
target_parts-row_parts-requires t c =
    let f = fits_concatenation c.args.signals.now _ _ _ _ c.in-Concatenation.is c.as_slice.ensures c.requires.fits in
    (grind (the_lemmas, arith, common_steps), (c.requires.bits, f))

pub target_parts-returns-in_ok-push-in-Signal : goal.target_parts-returns-in_ok-push-in-Signal
target_parts-returns-in_ok-push-in-Signal t c =
    let signals = c.args.signals.now in
    let g = c.in-Signal.g in
    let s = c.in-Signal.selection in
    let f = subst (FitsTarget signals) c.in-Signal.is c.requires.fits in
    let e = found signals g c.index-signals-g.result (there signals g s f.0) c.index-signals-g.is in
    adds_one signals c.args.target.now _ g s c.in_ok-part-in-Signal.part c.args.parts.now.items _ c.in-Signal.is c.in_ok-push-in-Signal.ensures.items (there signals g s f.0) (c.in_ok-part-in-Signal.ensures (shapes_of signals) (ap shape_or e))

pub target_parts-returns-in_ok-row_parts-in-Concatenation : goal.target_parts-returns-in_ok-row_parts-in-Concatenation
target_parts-returns-in_ok-row_parts-in-Concatenation t c = adds_concatenation c.args.signals.now c.args.target.now _ _ _ c.args.parts.now.items _ c.in-Concatenation.is c.as_slice.ensures c.in_ok-row_parts-in-Concatenation.ensures

pub row_parts-loop-target-preserved : goal.row_parts-loop-target-preserved
row_parts-loop-target-preserved t c =
    loop_more c.args.signals.now c.args.targets.now c.loop-target.target-index c.target-item.result _ c.args.parts.now.items c.loop-target.parts.items _ c.loop-target-test.true c.target-item.is c.loop-target.invariant c.in_ok-target_parts.ensures
