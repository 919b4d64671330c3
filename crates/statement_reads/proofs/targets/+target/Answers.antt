use Rattle.std.proofs.Common.{arith, sym, ap, ◌∙◌}
use Rattle.std.specs.Prelude.{◌||◌}
use Rattle.std.proofs.lemmas.Grind.{common_steps}
use Rattle.std.proofs.lemmas.Result.{on_ok_weaker}
use Rattle.bit_sets.specs.Sets.{is_in}
use Rattle.v_views.specs.Spots.{spot}
use Rattle.v_views.specs.declared.Target.{the_lemmas}
use Rattle.flat_language.proofs.Local.{flat_language}
use Rattle.flat_values.specs.Fits.{shapes_of}
use Rattle.statement_reads.proofs.Indexes.{reads-signal, reads-concatenation, fits-signal, fits-concatenation}
use Rattle.statement_reads.proofs.targets.+target.Goals as goal

pub add_target_reads-add_parts-requires : goal.add_target_reads-add_parts-requires
add_target_reads-add_parts-requires t c = (grind (the_lemmas, arith, common_steps), (fits-concatenation c.args.signals.now _ _ _ _ c.in-Concatenation.is c.as_slice.ensures c.requires.fits, c.requires.within))

pub add_target_reads-add_selection-requires-clause-fits : goal.add_target_reads-add_selection-requires-clause-fits
add_target_reads-add_selection-requires-clause-fits t c = fits-signal c.args.signals.now _ _ _ _ c.in-Signal.is c.requires.fits

pub add_target_reads-returns-in-Signal-clause-adds : goal.add_target_reads-returns-in-Signal-clause-adds
add_target_reads-returns-in-Signal-clause-adds t c =
    let l = flat_language (shapes_of c.args.signals.now) in
    on_ok_weaker c.add_selection.result (λ a h k. a h k ∙ ap (λ b. is_in c.args.set.now.items h k || b) (sym (reads-signal l (spot h 0 k) _ _ _ _ c.in-Signal.is))) c.add_selection.ensures.adds

pub add_target_reads-returns-in-Concatenation-clause-adds : goal.add_target_reads-returns-in-Concatenation-clause-adds
add_target_reads-returns-in-Concatenation-clause-adds t c =
    let l = flat_language (shapes_of c.args.signals.now) in
    on_ok_weaker c.add_parts.result (λ a h k. a h k ∙ ap (λ b. is_in c.args.set.now.items h k || b) (sym (reads-concatenation l (spot h 0 k) _ _ _ _ c.in-Concatenation.is c.as_slice.ensures))) c.add_parts.ensures.adds
