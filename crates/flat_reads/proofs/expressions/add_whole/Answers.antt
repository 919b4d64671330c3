use Rattle.std.proofs.Common.{◌∙◌, ap}
use Rattle.bit_sets.specs.Sets.{is_in}
use Rattle.v_views.specs.Spots.{is_bit_of}
use Rattle.flat_tree.specs.declared.design.FlatSignal.{FlatSignal}
use Rattle.flat_tree.specs.Values.{Shape}
use Rattle.flat_language.specs.Reads.{shape_of}
use Rattle.flat_values.specs.Fits.{shapes_of}
use Rattle.flat_reads.proofs.Selecting.{whole_read, whole_other}
use Rattle.flat_reads.proofs.Adding.{adds_mask, shape_at}
use Rattle.flat_reads.proofs.expressions.add_whole.Goals as goal

pub returns-clause-adds : goal.returns-clause-adds
returns-clause-adds c h k =
    let m = shapes_of c.args.signals.now in
    let g = c.args.g in
    let v = c.requires.vector in
    let e = shape_at c.args.signals.now g c.index-signals-g.result v.0.there c.index-signals-g.is in
    ap (λ items. is_in items h k) c.in_ok-push.ensures.items
    ∙ adds_mask (is_bit_of (shape_of (m g)) g) g c.span.result c.args.set.now.items
    (whole_read m g _ c.span.result v.1 (ap (λ (s : Shape). s.bits) e ∙ ap (λ (s : FlatSignal). s.bits) c.index-signals-g.is) c.span.ensures)
    (λ j i n. whole_other m g j i n) h k
