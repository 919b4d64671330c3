use Rattle.std.proofs.Common.{arith}
use Rattle.bitblast.proofs.Growth.{grows_then}
use Rattle.bitblast.proofs.Truths.{adder_is}
use Rattle.bitblast.proofs.gates.full_adder.Goals as goal

pub returns : goal.returns
returns c =
    let h = c.in_ok-half.ensures in
    let s = c.in_ok-sum.ensures in
    let m = c.in_ok-made.ensures in
    let d = c.in_ok-passed.ensures in
    let e = c.in_ok-carry.ensures in
    let first = grows_then _ _ _ 6 1 (grows_then _ _ _ 3 3 h.grows s.grows) m.grows in
    let rest = grows_then _ _ _ 1 1 d.grows e.grows in
    record {
      grows = grows_then _ _ _ 7 2 first rest;
      sum_there = let t = s.there in let l = m.grows.longer in let k = rest.longer in omega arith;
      carry_there = e.there;
      value = λ a k.
          let k3 = rest.values a k in
          let k2 = m.grows.values a k3 in
          adder_is _ _ _ _ _ _ _ _ (h.value a (s.grows.values a k2)) (s.value a k2) (m.value a k3) (d.value a (e.grows.values a k)) (e.value a k);
    }
