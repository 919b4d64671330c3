use Rattle.elab_patterns.proofs.Digits.{padded_ones, padded_none}
use Rattle.elab_patterns.proofs.padded.Goals as goal

pub returns-then-begins : goal.returns-then-begins
returns-then-begins c = padded_ones c.args.base c.args.begins c.if-begins.true

pub returns-else-begins : goal.returns-else-begins
returns-else-begins c = padded_none c.args.base c.args.begins c.if-begins.false
