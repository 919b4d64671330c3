use Rattle.std.proofs.Common.{arith}
use Rattle.bitblast.proofs.Bounds.{few_gates}
use Rattle.bitblast.proofs.order.blast_if_ordered.Goals as goal

pub blast-requires-clause-room : goal.blast-requires-clause-room
blast-requires-clause-room c =
    few_gates c.args.terms.now c.args.list.now c.len.ensures.proper (c.in_ok-is_ordered.ensures c.if-not-branch.false)
    (omega (arith, c.len.ensures.value, c.if-len-gt4000.false)) (omega (arith, c.len-else-len-gt4000.ensures, c.if-len-gt4000-2.false))
