use Rattle.std.proofs.Common.{◌≡◌, ◌+◌, ◌-◌, length, subst, arith}
use Rattle.flat_values.specs.Fits.{shapes_of}
use Rattle.part_stores.specs.Stores.{seen, IsPartStored}
use Rattle.part_stores.proofs.Storing.{row_grown, part_stored}
use Rattle.part_stores.proofs.stores.store_piece.Goals as goal

pub returns : goal.returns
returns c =
    let count = length c.args.signals.now in
    let shape = seen (shapes_of c.args.signals.now) in
    let starts = c.args.starts.now in
    let p = c.args.part in
    let g = c.args.terms.now in
    let h = c.slice.new.terms in
    let top = c.args.top in
    let n = c.bits-n.result in
    let is = c.bits-n.ensures in
    let some = c.requires.some in
    let width : top - 1 - (top - n) + 1 ≡ p.high - p.low + 1 = omega (arith, is, some) in
    let adds = c.in_ok-piece.ensures.adds in
    let row = row_grown count shape starts c.args.words.now g h _ _ adds.typed c.requires.row in
    subst (λ k. IsPartStored count shape starts c.args.words.now c.store.new.words p c.args.value.0 (top - k) c.args.guard.0 g c.store.new.terms) is
    (part_stored count shape starts c.args.words.now c.store.new.words p c.args.value.0 (top - n) (top - 1 - (top - n) + 1) c.in_ok-piece.piece.0 c.args.guard.0 g h c.store.new.terms width c.requires.value adds (c.in_ok-store.ensures.stored count shape row c.requires.fits))
