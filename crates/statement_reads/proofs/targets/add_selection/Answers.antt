use Rattle.std.proofs.Common.{sym, ap, ◌∙◌, subst}
use Rattle.std.specs.Prelude.{◌||◌}
use Rattle.std.proofs.lemmas.Result.{on_ok_weaker}
use Rattle.bit_sets.specs.Sets.{is_in}
use Rattle.v_views.specs.Spots.{spot}
use Rattle.v_views.specs.Names.{part_reads}
use Rattle.flat_language.proofs.Local.{flat_language}
use Rattle.flat_values.specs.Fits.{shapes_of}
use Rattle.statement_reads.specs.Reads.{HasReadable, AddsSelection}
use Rattle.statement_reads.proofs.Indexes.{adds_none}
use Rattle.statement_reads.proofs.targets.add_selection.Goals as goal

pub add_reads-requires-clause-fits : goal.add_reads-requires-clause-fits
add_reads-requires-clause-fits c = subst (HasReadable c.args.signals.now) c.in-Bit.is c.requires.fits

pub add_reads-requires-in-Up-clause-fits : goal.add_reads-requires-in-Up-clause-fits
add_reads-requires-in-Up-clause-fits c = subst (HasReadable c.args.signals.now) c.in-Up.is c.requires.fits

pub add_reads-requires-in-Down-clause-fits : goal.add_reads-requires-in-Down-clause-fits
add_reads-requires-in-Down-clause-fits c = subst (HasReadable c.args.signals.now) c.in-Down.is c.requires.fits

pub returns-in-Whole-clause-adds : goal.returns-in-Whole-clause-adds
returns-in-Whole-clause-adds c =
    let old = c.args.set.now.items in
    subst (λ s. AddsSelection (shapes_of c.args.signals.now) s old old) (sym c.in-Whole.is) (λ h k. adds_none (is_in old h k))

pub returns-in-Part-clause-adds : goal.returns-in-Part-clause-adds
returns-in-Part-clause-adds c =
    let old = c.args.set.now.items in
    subst (λ s. AddsSelection (shapes_of c.args.signals.now) s old old) (sym c.in-Part.is) (λ h k. adds_none (is_in old h k))

pub returns-in-Bit-clause-adds : goal.returns-in-Bit-clause-adds
returns-in-Bit-clause-adds c =
    let l = flat_language (shapes_of c.args.signals.now) in
    on_ok_weaker c.add_reads.result (λ a h k. a h k ∙ ap (λ b. is_in c.args.set.now.items h k || b) (ap (λ s. part_reads l s (spot h 0 k)) (sym c.in-Bit.is))) c.add_reads.ensures.adds

pub returns-in-Up-clause-adds : goal.returns-in-Up-clause-adds
returns-in-Up-clause-adds c =
    let l = flat_language (shapes_of c.args.signals.now) in
    on_ok_weaker c.add_reads-in-Up.result (λ a h k. a h k ∙ ap (λ b. is_in c.args.set.now.items h k || b) (ap (λ s. part_reads l s (spot h 0 k)) (sym c.in-Up.is))) c.add_reads-in-Up.ensures.adds

pub returns-in-Down-clause-adds : goal.returns-in-Down-clause-adds
returns-in-Down-clause-adds c =
    let l = flat_language (shapes_of c.args.signals.now) in
    on_ok_weaker c.add_reads-in-Down.result (λ a h k. a h k ∙ ap (λ b. is_in c.args.set.now.items h k || b) (ap (λ s. part_reads l s (spot h 0 k)) (sym c.in-Down.is))) c.add_reads-in-Down.ensures.adds
