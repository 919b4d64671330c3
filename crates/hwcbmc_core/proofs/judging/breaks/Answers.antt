use Rattle.std.proofs.Common.{◌≡◌, Bool, true, false, not, eqb, ◌∙◌, ap, sym, refl, leb}
use Rattle.std.proofs.lemmas.Bool.{lt-leb}
use Rattle.std.specs.Bool.{MatchBool}
use Rattle.hwcbmc_core.proofs.RunLemmas.{breaks_all, breaks_none, breaks_none_past}
use Rattle.hwcbmc_core.proofs.judging.breaks.Goals as goal

by_test : (b : Bool) (P Q : Type 0) → (b ≡ false → P) → (b ≡ true → Q) → MatchBool (not b) P Q
by_test true P Q p q = q refl
by_test false P Q p q = p refl

pub returns-then-program-bounds : goal.returns-then-program-bounds
returns-then-program-bounds c =
    by_test (eqb c.count_after.result c.args.program.expected) _ _
    (λ apart. breaks_all c.args.program c.args.counter c.args.bounds.now c.if-program-bounds.true (ap (λ n. eqb n c.args.program.expected) (sym c.count_after.ensures) ∙ apart))
    (λ same. breaks_none c.args.program c.args.counter c.args.bounds.now c.if-program-bounds.true (ap (λ n. eqb n c.args.program.expected) (sym c.count_after.ensures) ∙ same))

pub returns-else-program-bounds : goal.returns-else-program-bounds
returns-else-program-bounds c =
    let more : leb c.args.program.edges c.args.bounds.now.frames ≡ false = lt-leb c.args.program.edges c.args.bounds.now.frames c.if-program-bounds.false in
    rw more (breaks_none_past c.args.program c.args.counter c.args.bounds.now c.if-program-bounds.false)
