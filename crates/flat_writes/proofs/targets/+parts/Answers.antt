use Rattle.std.proofs.Common.{◌<◌, ◌∙◌, length, sym, ap, subst, arith}
use Rattle.std.specs.Prelude.{◌||◌}
use Rattle.std.specs.List.{list_any}
use Rattle.std.proofs.lemmas.Grind.{common_steps}
use Rattle.std.proofs.lemmas.List.Elements.{All-push}
use Rattle.bit_sets.specs.declared.Bits.{Bits}
use Rattle.bit_sets.specs.Sets.{is_in, IsWithin}
use Rattle.v_views.specs.Spots.{spot}
use Rattle.v_views.specs.declared.Target.{Target, the_lemmas}
use Rattle.flat_tree.specs.declared.expr.FlatExpr.{FlatExpr}
use Rattle.flat_language.proofs.Local.{flat_language}
use Rattle.flat_values.specs.Fits.{shapes_of, shape_or}
use Rattle.flat_writes.specs.Writes.{target_bits, FitsTarget, FitsSignal}
use Rattle.flat_writes.proofs.Writing.{adds_part, shape_words}
use Rattle.flat_writes.proofs.Parts.{concatenation_bits, fits_concatenation, signal_bits, there, found}
use Rattle.flat_writes.proofs.targets.+parts.Goals as goal

pub add_bits-add_parts-requires : goal.add_bits-add_parts-requires
add_bits-add_parts-requires t c =
    let f = fits_concatenation c.args.signals.now _ _ _ _ c.in-Concatenation.is c.as_slice.ensures c.requires.fits in
    (grind (the_lemmas, arith, common_steps), (f, c.requires.within))

pub add_bits-returns-in_ok-push-in-Signal-clause-within : goal.add_bits-returns-in_ok-push-in-Signal-clause-within
add_bits-returns-in_ok-push-in-Signal-clause-within t c =
    let n = length c.args.signals.now in
    let f = subst (FitsTarget c.args.signals.now) c.in-Signal.is c.requires.fits in
    subst (IsWithin n) (sym c.in_ok-push-in-Signal.ensures.items) (All-push (λ (x : Bits). x.signal < n) c.args.set.now.items _ c.requires.within (there c.args.signals.now c.in-Signal.g c.in-Signal.selection f.0))

pub add_bits-returns-in_ok-push-in-Signal-clause-adds : goal.add_bits-returns-in_ok-push-in-Signal-clause-adds
add_bits-returns-in_ok-push-in-Signal-clause-adds t c h k =
    let signals = c.args.signals.now in
    let l = flat_language (shapes_of signals) in
    let g = c.in-Signal.g in
    let s = c.in-Signal.selection in
    let f = subst (FitsTarget signals) c.in-Signal.is c.requires.fits in
    let e = found signals g c.index-signals-g.result (there signals g s f.0) c.index-signals-g.is in
    let fits = subst (λ o. FitsSignal o s) e f.0 in
    ap (λ items. is_in items h k) c.in_ok-push-in-Signal.ensures.items
    ∙ adds_part (shapes_of signals) c.args.extent g c.part_mask-mask.result s c.args.set.now.items (shape_words signals g c.index-signals-g.result e fits.0) (λ j. c.part_mask-mask.ensures (shapes_of signals) g j (ap shape_or e) f.1) h k
    ∙ ap (λ b. is_in c.args.set.now.items h k || b) (signal_bits l c.args.extent c.in-Signal.field-0 g s (spot h 0 k) ∙ ap (λ x. target_bits l c.args.extent x (spot h 0 k)) (sym c.in-Signal.is))

pub add_bits-returns-in_ok-add_parts-in-Concatenation-clause-adds : goal.add_bits-returns-in_ok-add_parts-in-Concatenation-clause-adds
add_bits-returns-in_ok-add_parts-in-Concatenation-clause-adds t c h k =
    let l = flat_language (shapes_of c.args.signals.now) in
    let x = spot h 0 k in
    c.in_ok-add_parts-in-Concatenation.ensures.adds h k
    ∙ ap (λ b. is_in c.args.set.now.items h k || b)
    (ap (list_any (λ (a : Target FlatExpr). target_bits l c.args.extent a x)) c.as_slice.ensures
    ∙ sym (concatenation_bits l c.args.extent c.in-Concatenation.field-0 c.in-Concatenation.parts x)
    ∙ ap (λ a. target_bits l c.args.extent a x) (sym c.in-Concatenation.is))
