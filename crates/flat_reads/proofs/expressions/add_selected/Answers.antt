use Rattle.std.proofs.Common.{◌∙◌, ap, sym, subst, length}
use Rattle.std.specs.Prelude.{◌||◌}
use Rattle.std.proofs.lemmas.Result.{on_ok_weaker}
use Rattle.bit_sets.specs.Sets.{is_in}
use Rattle.v_views.specs.Spots.{spot}
use Rattle.flat_values.specs.Fits.{shapes_of}
use Rattle.flat_reads.specs.Sets.{IsVector, selected, IsReadBy}
use Rattle.flat_reads.proofs.Selecting.{select_fits, select_index, select_other, selected_steady, selected_varying}
use Rattle.flat_reads.proofs.Adding.{adds_mask, shape_at}
use Rattle.flat_reads.proofs.expressions.add_selected.Goals as goal

pub select_bits-requires-clause-fits : goal.select_bits-requires-clause-fits
select_bits-requires-clause-fits c =
    let signals = c.args.signals.now in
    let m = shapes_of signals in
    let f = c.requires.fits in
    select_fits (IsVector (length signals) m) m c.args.g c.args.selection.now f.1 _ (shape_at signals c.args.g c.index-signals-g.result f.0.0.there c.index-signals-g.is)

pub returns-in_ok-push-in-Mask-clause-adds : goal.returns-in_ok-push-in-Mask-clause-adds
returns-in_ok-push-in-Mask-clause-adds c h k =
    let signals = c.args.signals.now in
    let m = shapes_of signals in
    let g = c.args.g in
    let s = c.args.selection.now in
    let f = c.requires.fits in
    let read = c.select_bits.ensures m g (shape_at signals g c.index-signals-g.result f.0.0.there c.index-signals-g.is) (select_index (IsVector (length signals) m) m g s f.1) in
    let mask = subst (IsReadBy m g s) c.in-Mask.is read in
    ap (λ items. is_in items h k) c.in_ok-push-in-Mask.ensures.items
    ∙ adds_mask (selected m g s) g c.in-Mask.mask c.args.set.now.items
    (λ j. mask.1 j ∙ sym (selected_steady m g s (spot g 0 j) mask.0))
    (λ i j n. selected_steady m g s (spot i 0 j) mask.0 ∙ select_other m g i j s f.0.1 mask.0 n) h k

pub returns-in-Varying-clause-adds : goal.returns-in-Varying-clause-adds
returns-in-Varying-clause-adds c =
    let signals = c.args.signals.now in
    let m = shapes_of signals in
    let g = c.args.g in
    let s = c.args.selection.now in
    let f = c.requires.fits in
    let read = c.select_bits.ensures m g (shape_at signals g c.index-signals-g.result f.0.0.there c.index-signals-g.is) (select_index (IsVector (length signals) m) m g s f.1) in
    let varying = subst (IsReadBy m g s) c.in-Varying.is read in
    on_ok_weaker c.add_whole.result (λ a h k. a h k ∙ ap (λ b. is_in c.args.set.now.items h k || b) (sym (selected_varying m g s (spot h 0 k) varying))) c.add_whole.ensures.adds
