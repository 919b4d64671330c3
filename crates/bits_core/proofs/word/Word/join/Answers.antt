use Rattle.std.proofs.Common.{◌≡◌, ◌+◌, ◌≤◌, ap, arith}
use Rattle.bits_core.specs.Word.{Word}
use Rattle.bits_core.proofs.Bounds.{join_below}
use Rattle.bits_core.proofs.word.Word.join.Goals as goal

pub invariant_of-result : goal.invariant_of-result
invariant_of-result c =
    let a = c.self.invariant in
    let b = c.right.invariant in
    let lt = join_below c.self.inside.width c.right.inside.width c.self.inside.value c.right.inside.value a.below b.below in
    let e = c.joined-value.ensures in
    let l : c.self.inside.width ≡ c.args.self.width = ap (λ (w : Word). w.width) c.self.view_is in
    let r : c.right.inside.width ≡ c.args.right.width = ap (λ (w : Word). w.width) c.right.view_is in
    let h : c.args.self.width + c.args.right.width ≤ 128 = c.requires in
    let s = a.some in
    record {
      some = omega (arith, s);
      within = omega (arith, h, l, r);
      below = omega (arith, e, lt);
    }
