use Rattle.std.proofs.Common.{ap, ◌∙◌}
use Rattle.std.proofs.Math.Nat.{mod-eq_of_lt}
use Rattle.bits_core.specs.Word.{word}
use Rattle.joint_view.proofs.words.word_of.Goals as goal

pub returns : goal.returns
returns c = c.from_low_bits.ensures.value ∙ ap (word c.args.width) (mod-eq_of_lt c.requires.below)
