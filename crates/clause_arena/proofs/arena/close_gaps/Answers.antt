use Rattle.std.proofs.Common.{◌<◌, ◌+◌, length, drop, ◌∙◌, arith}
use Rattle.clause_arena.proofs.SpanParts.{next-within, order-le, split-dead, split-moved, parts-moved}
use Rattle.clause_arena.proofs.arena.close_gaps.Goals as goal
use Rattle.clause_arena.proofs.arena.close_gaps.Goals.{in-Some, in_default}

pub move_down-moved-requires-clause-room : goal.move_down-moved-requires-clause-room
move_down-moved-requires-clause-room c =
    let k : c.loop-i.i < length c.loop-i.spans = omega (arith, c.loop-i.auto.spans, c.loop-i-test.true) in
    order-le c.in-Some.span.to (length c.loop-i.lits.items) (drop (c.loop-i.i + 1) c.loop-i.spans) (next-within c.loop-i.lits.items c.loop-i.spans c.loop-i.i c.loop-i.end c.in-Some.span k c.in-Some.is c.loop-i.invariant.split.rest).2

pub loop-i-preserved : goal.loop-i-preserved
loop-i-preserved c =
    let k : c.loop-i.i < length c.loop-i.spans = omega (arith, c.loop-i.auto.spans, c.loop-i-test.true) in
    elim c.match-spans-i.branch [
      | in-Some w ↦
          let d = w.move_down-moved.ensures in
          rw (w.lits-is, w.spans-is, w.end-is)
          (record {
            split = split-moved c.loop-i.lits.items w.move_down-moved.new.lits.items c.loop-i.spans c.loop-i.i c.loop-i.end w.in-Some.span w.move_down-moved.result k w.in-Some.is d.from d.to d.len c.loop-i.invariant.split;
            same =
                parts-moved c.loop-i.lits.items w.move_down-moved.new.lits.items c.loop-i.spans c.loop-i.i c.loop-i.end w.in-Some.span w.move_down-moved.result k w.in-Some.is d.moved d.below d.above c.loop-i.invariant.split
                ∙ c.loop-i.invariant.same;
            len = d.len ∙ c.loop-i.invariant.len;
            capacity = d.capacity ∙ c.loop-i.invariant.capacity;
          })
      | in_default w ↦
          rw (w.lits-is, w.spans-is, w.end-is)
          (record {
            split = split-dead c.loop-i.lits.items c.loop-i.spans c.loop-i.i c.loop-i.end k w.in_default.is c.loop-i.invariant.split;
            same = c.loop-i.invariant.same;
            len = c.loop-i.invariant.len;
            capacity = c.loop-i.invariant.capacity;
          })
    ]
