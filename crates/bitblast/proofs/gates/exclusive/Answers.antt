use Rattle.bitblast.proofs.Growth.{grows_then}
use Rattle.bitblast.proofs.Truths.{exclusive_is}
use Rattle.bitblast.proofs.gates.exclusive.Goals as goal

pub returns : goal.returns
returns c =
    let t = c.in_ok-two.ensures in
    let n = c.in_ok-neither.ensures in
    let e = c.in_ok-e.ensures in
    record {
      grows = grows_then _ _ _ 2 1 (grows_then _ _ _ 1 1 t.grows n.grows) e.grows;
      there = e.there;
      value = λ a k.
          let k2 = e.grows.values a k in
          exclusive_is _ _ _ _ _ _ _ _ _ (t.value a (n.grows.values a k2)) (c.opposite.ensures.value a) (c.opposite-2.ensures.value a) (n.value a k2) (c.opposite-3.ensures.value a) (c.opposite-4.ensures.value a) (e.value a k);
    }
