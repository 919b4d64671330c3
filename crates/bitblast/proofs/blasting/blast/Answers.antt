use Rattle.std.proofs.Common.{◌≡◌, length, subst, arith}
use Rattle.bitblast.specs.Making.{IsAt}
use Rattle.bitblast.proofs.Standing.{stands}
use Rattle.bitblast.proofs.blasting.blast.Goals as goal

pub returns : goal.returns
returns c =
    let k : c.loop-k.k ≡ length c.args.list.now = omega (arith, c.loop-k.auto.k-end, c.loop-k-test.false, c.len-k-end.ensures) in
    stands c.args.terms.now c.args.list.now c.loop-k.maker (record {
      all = subst (λ k. IsAt c.args.terms.now c.args.list.now k c.loop-k.maker) k c.loop-k.invariant;
      ordered = c.requires.ordered;
      fixed = c.values_law.ensures;
    })
