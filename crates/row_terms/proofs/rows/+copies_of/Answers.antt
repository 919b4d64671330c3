-- So many copies.
use Rattle.std.proofs.Common.{arith}
use Rattle.word_eqs.specs.Graph.{width_in}
use Rattle.row_terms.proofs.Copying.{one_copy, some_bits, half_within, half_below, halves_width, both_width, even_copies, odd_copies}
use Rattle.row_terms.proofs.rows.+copies_of.Goals as goal

-- src/rows.rt:29:9
pub returns-then-count-eq1 : goal.returns-then-count-eq1
returns-then-count-eq1 t c = one_copy c.args.terms.now c.args.x.0 c.args.count c.args.bits c.if-count-eq1.true c.len.ensures.proper c.requires.x

-- src/rows.rt:31:16
pub copies_of-requires : goal.copies_of-requires
copies_of-requires t c =
    let some = c.requires.some in
    let not_one = c.if-count-eq1.false in
    let room = c.requires.room in
    let bits = some_bits c.args.count c.args.bits c.requires.some c.requires.bits in
    let half = half_within c.args.count (width_in c.args.terms.now c.args.x.0) c.requires.within in
    let down = c.decreases in
    (omega (arith, some, down), (c.requires.x, (omega (arith, some, not_one), (half_below c.args.count c.args.bits c.requires.some c.requires.bits, (omega (arith, half), omega (arith, room, bits))))))

-- src/rows.rt:32:16
pub join-requires-clause-width : goal.join-requires-clause-width
join-requires-clause-width t c = halves_width c.args.terms.now c.copies_of.new.terms c.args.x.0 c.args.count _ c.in_ok-half.half.0 _ c.requires.within c.in_ok-half.ensures

-- src/rows.rt:34:9
pub returns-then-count-eq0 : goal.returns-then-count-eq0
returns-then-count-eq0 t c = even_copies c.args.terms.now c.copies_of.new.terms c.join.new.terms c.args.x.0 c.args.count c.args.bits c.in_ok-half.half.0 c.in_ok-both.both.0 c.requires.some c.requires.bits c.if-count-eq0.true c.in_ok-half.ensures c.in_ok-both.ensures.adds

-- src/rows.rt:36:13
pub join-requires-2-clause-width : goal.join-requires-2-clause-width
join-requires-2-clause-width t c = both_width c.args.terms.now c.copies_of.new.terms c.join.new.terms c.args.x.0 c.args.count _ _ c.in_ok-half.half.0 c.in_ok-both.both.0 _ _ c.requires.x c.if-count-eq0.false c.requires.within c.in_ok-half.ensures c.in_ok-both.ensures.adds

-- src/rows.rt:14:1
pub returns : goal.returns
returns t c = odd_copies c.args.terms.now c.copies_of.new.terms c.join.new.terms c.join-2.new.terms c.args.x.0 c.args.count c.args.bits c.in_ok-half.half.0 c.in_ok-both.both.0 c.in_ok-t.t.0 c.requires.x c.requires.some c.requires.bits c.if-count-eq0.false c.in_ok-half.ensures c.in_ok-both.ensures.adds c.in_ok-t.ensures.adds
