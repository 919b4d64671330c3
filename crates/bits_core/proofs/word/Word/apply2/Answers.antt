use Rattle.std.proofs.Common.{◌≡◌, sym, ◌∙◌, ap}
use Rattle.bits_core.specs.Word.{Word, word}
use Rattle.bits_core.proofs.Proper.{word2_is}
use Rattle.bits_core.proofs.word.Word.apply2.Goals as goal

pub invariant_of-result : goal.invariant_of-result
invariant_of-result c =
    let l : c.self.inside.width ≡ c.args.self.width = ap (λ (w : Word). w.width) c.self.view_is in
    let r : c.right.inside.width ≡ c.args.right.width = ap (λ (w : Word). w.width) c.right.view_is in
    let e : c.right.inside.width ≡ c.self.inside.width = r ∙ c.requires ∙ sym l in
    let h = word2_is c.args.op (word c.self.inside.width c.self.inside.value) (word c.right.inside.width c.right.inside.value) c.self.invariant c.right.invariant e in
    rw (c.width-width.ensures.width, c.apply2-value.ensures) h
