use Rattle.std.proofs.Common.{◌∙◌, ◌+◌, ◌-◌, sym, refl, ap, subst, arith}
use Rattle.flat_tree.specs.Values.{Shape}
use Rattle.flat_values.specs.Fits.{no_shape, shape_of}
use Rattle.flat_bits.specs.declared.selections.Named.TheVariants as named
use Rattle.flat_bits.proofs.Naming.{close_of}
use Rattle.flat_reads.specs.Sets.{FitsRead, IsReadBy}
use Rattle.flat_reads.proofs.Selecting.{part_read, reads_by, read_bit, read_up, read_down, index_bit, index_up, index_down}
use Rattle.flat_reads.proofs.selects.select_bits.Goals as goal

pub indexed-requires-clause-close : goal.indexed-requires-clause-close
indexed-requires-clause-close c = close_of (λ g. no_shape) c.get.result.now c.constant_index.result (c.constant_index.ensures (λ g. no_shape))

pub indexed-requires-in-Up-clause-close : goal.indexed-requires-in-Up-clause-close
indexed-requires-in-Up-clause-close c = close_of (λ g. no_shape) c.get-in-Up.result.now c.constant_index-in-Up.result (c.constant_index-in-Up.ensures (λ g. no_shape))

pub indexed-requires-in-Down-clause-close : goal.indexed-requires-in-Down-clause-close
indexed-requires-in-Down-clause-close c = close_of (λ g. no_shape) c.get-in-Down.result.now c.constant_index-in-Down.result (c.constant_index-in-Down.ensures (λ g. no_shape))

pub returns-in-Bit : goal.returns-in-Bit
returns-in-Bit c shapes g e I =
    let s = c.args.signal.now in
    let low = ap (λ (x : Shape). x.low) e in
    read_bit shapes g c.args.selection.now c.in-Bit.i c.get.result.now c.indexed.result c.in-Bit.is c.get.ensures (ap (λ (x : Shape). x.words) e ∙ c.requires.vector)
    (reads_by shapes g s.bits s.low 0 (shapes g).low 1 c.get.result.now c.constant_index.result c.indexed.result (ap (λ (x : Shape). x.bits) e) low (index_bit shapes _ _ _ c.in-Bit.is c.get.ensures I) (c.constant_index.ensures shapes) c.indexed.ensures (omega arith))

pub returns-in-Part : goal.returns-in-Part
returns-in-Part c shapes g e I =
    let s = c.args.signal.now in
    let f = subst (FitsRead (shape_of s)) c.in-Part.is c.requires.fits in
    subst (λ x. IsReadBy shapes g x (named.Mask c.part.result)) (sym c.in-Part.is)
    (part_read shapes g s.bits s.low c.in-Part.high c.in-Part.end c.part.result (ap (λ (x : Shape). x.words) e ∙ c.requires.vector) (ap (λ (x : Shape). x.bits) e) (ap (λ (x : Shape). x.low) e) f.0 c.part.ensures)

pub returns-in-Up : goal.returns-in-Up
returns-in-Up c shapes g e I =
    let s = c.args.signal.now in
    let n = c.in-Up.n in
    read_up shapes g n c.args.selection.now c.in-Up.i c.get-in-Up.result.now c.indexed-in-Up.result c.in-Up.is c.get-in-Up.ensures
    (reads_by shapes g s.bits s.low 0 (shapes g).low n c.get-in-Up.result.now c.constant_index-in-Up.result c.indexed-in-Up.result (ap (λ (x : Shape). x.bits) e) (ap (λ (x : Shape). x.low) e) (index_up shapes _ _ _ _ c.in-Up.is c.get-in-Up.ensures I) (c.constant_index-in-Up.ensures shapes) c.indexed-in-Up.ensures (omega arith))

pub returns-in-Down : goal.returns-in-Down
returns-in-Down c shapes g e I =
    let s = c.args.signal.now in
    let n = c.in-Down.n in
    read_down shapes g n c.args.selection.now c.in-Down.i c.get-in-Down.result.now c.indexed-in-Down.result c.in-Down.is c.get-in-Down.ensures
    (reads_by shapes g s.bits s.low (n - 1) ((shapes g).low + (n - 1)) n c.get-in-Down.result.now c.constant_index-in-Down.result c.indexed-in-Down.result (ap (λ (x : Shape). x.bits) e) (ap (λ (x : Shape). x.low) e) (index_down shapes _ _ _ _ c.in-Down.is c.get-in-Down.ensures I) (c.constant_index-in-Down.ensures shapes) c.indexed-in-Down.ensures refl)
