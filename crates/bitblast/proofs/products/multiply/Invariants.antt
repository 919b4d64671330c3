use Rattle.std.proofs.Common.{◌-◌, length}
use Rattle.bitblast.proofs.ProductLaws.{MakesProduct}
use Rattle.bitblast.proofs.products.multiply.Given as goal

abbrev pub invariant-loop-i : goal.invariant-loop-i
invariant-loop-i l = MakesProduct l.initial.net l.net l.left l.right l.i (length l.left - l.i) l.product.items
