use Rattle.std.proofs.Common.{◌≡◌, ◌+◌, ◌-◌, ◌≤◌, ℕ, List, take, get_or, length, sym, ap, ◌∙◌, subst, arith}
use Rattle.std.proofs.lemmas.List.{take_more}
use Rattle.flat_values.specs.Fits.{shapes_of}
use Rattle.part_stores.specs.Stores.{seen, all_bits, AreStored}
use Rattle.part_stores.proofs.Storing.{more_stored, next_fits, next_bits}
use Rattle.part_stores.proofs.stores.store_all.Goals as goal
use Rattle.view_rows.specs.declared.stores.Part.{Part}

pub store_piece-requires-clause-some : goal.store_piece-requires-clause-some
store_piece-requires-clause-some c = next_fits c.args.parts.now c.loop-part.part-index c.loop-part.top (record { signal = 0; word = 0; high = 0; low = 0 }) c.loop-part-test.true c.loop-part.invariant.top

pub overflow_sub-top : goal.overflow_sub-top
overflow_sub-top c = let n = c.bits-top.ensures in let le = next_fits c.args.parts.now c.loop-part.part-index c.loop-part.top (record { signal = 0; word = 0; high = 0; low = 0 }) c.loop-part-test.true c.loop-part.invariant.top in omega (arith, n, le)

pub loop-part-preserved : goal.loop-part-preserved
loop-part-preserved c =
    let count = length c.args.signals.now in
    let shape = seen (shapes_of c.args.signals.now) in
    let starts = c.args.starts.now in
    let parts = c.args.parts.now in
    let i = c.loop-part.part-index in
    let p : Part = get_or parts i (record { signal = 0; word = 0; high = 0; low = 0 }) in
    let top = c.loop-part.top in
    let n = c.bits-top.ensures in
    let more = take_more parts i (record { signal = 0; word = 0; high = 0; low = 0 }) c.loop-part-test.true in
    let le = next_fits parts i top (record { signal = 0; word = 0; high = 0; low = 0 }) c.loop-part-test.true c.loop-part.invariant.top in
    let bits = next_bits parts i (record { signal = 0; word = 0; high = 0; low = 0 }) c.loop-part-test.true in
    let before = c.loop-part.invariant.top in
    let stored = more_stored count shape starts c.args.words.now c.loop-part.words c.store_piece.new.words (take i parts) p c.args.value.0 top c.args.guard.0 c.args.terms.now c.loop-part.terms c.store_piece.new.terms le c.loop-part.invariant.stored c.in_ok-store_piece.ensures in
    record {
      top = omega (arith, bits, n, before);
      stored =
          subst (λ k. AreStored count shape starts c.args.words.now c.store_piece.new.words (take (i + 1) parts) c.args.value.0 (top - k) c.args.guard.0 c.args.terms.now c.store_piece.new.terms) (sym n)
          (subst (λ ps. AreStored count shape starts c.args.words.now c.store_piece.new.words ps c.args.value.0 (top - (p.high - p.low + 1)) c.args.guard.0 c.args.terms.now c.store_piece.new.terms) (sym more) stored);
    }
