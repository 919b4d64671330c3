use Rattle.std.proofs.Common.{ap, ◌+◌, arith}
use Rattle.bits_core.proofs.Bounds.{join_fits, join_whole}
use Rattle.bits_core.proofs.arithmetic.joined.Goals as goal

pub overflow_add-result : goal.overflow_add-result
overflow_add-result c =
    let e = join_whole c.args.w c.args.n c.args.x c.args.y c.requires.left c.requires.right c.requires.width in
    let lt = join_fits c.args.w c.args.n c.args.x c.args.y c.requires.left c.requires.right c.requires.width in
    omega (arith, e, lt)

pub returns : goal.returns
returns c = ap (λ k. k + c.args.y) (join_whole c.args.w c.args.n c.args.x c.args.y c.requires.left c.requires.right c.requires.width)
