use Rattle.std.proofs.Common.{refl}
use Rattle.bitblast.proofs.ProductLaws.{product_start, product_step}
use Rattle.bitblast.proofs.products.multiply.Goals as goal

pub loop-i-init : goal.loop-i-init
loop-i-init c = product_start _ c.args.left.now c.args.right.now _ c.requires.widths c.new-product.ensures

pub loop-i-preserved : goal.loop-i-preserved
loop-i-preserved c =
    product_step _ _ _ c.args.left.now c.args.right.now c.loop-i.product.items _ _ _ _ c.loop-i.i c.requires.widths c.loop-i-test.true c.loop-i.auto.i c.deref.ensures.0
    refl c.loop-i.invariant c.in_ok-product.ensures
