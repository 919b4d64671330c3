use Rattle.std.proofs.Common.{sym, ◌∙◌, ◌^◌, ap}
use Rattle.std.specs.Int.{w128}
use Rattle.std.proofs.lemmas.Int.{to_z_pos}
use Rattle.bits_core.specs.Word.{Word, read_signed}
use Rattle.bits_core.proofs.Laws.{below_half, signed_low}
use Rattle.bits_core.proofs.Bounds.{half_fits}
use Rattle.bits_core.proofs.word.Word.to_signed.Goals as goal

pub overflow_cast-result : goal.overflow_cast-result
overflow_cast-result c =
    let l = below_half (2 ^ c.self.inside.width) c.self.inside.value (sym c.is_low_half.ensures ∙ c.if-is_low_half.true) in
    record { sfits = half_fits c.self.inside.width c.self.inside.value c.self.invariant.within l }

pub returns-then-is_low_half : goal.returns-then-is_low_half
returns-then-is_low_half c =
    let l = below_half (2 ^ c.self.inside.width) c.self.inside.value (sym c.is_low_half.ensures ∙ c.if-is_low_half.true) in
    to_z_pos w128 c.self.inside.value (half_fits c.self.inside.width c.self.inside.value c.self.invariant.within l) ∙ sym (signed_low (2 ^ c.self.inside.width) c.self.inside.value l) ∙ ap (λ (w : Word). read_signed (2 ^ w.width) w.value) c.self.view_is
