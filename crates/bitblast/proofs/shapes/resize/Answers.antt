use Rattle.std.proofs.Common.{arith}
use Rattle.bitblast.proofs.ShapeLaws.{cut_value, extended_there, extended_sign, extended_zeros}
use Rattle.bitblast.proofs.shapes.resize.Goals as goal

pub returns-then-to-word-clause-value : goal.returns-then-to-word-clause-value
returns-then-to-word-clause-value c a v = cut_value a c.args.word.now _ c.args.to c.args.signed c.if-to-word.true c.cut.ensures

pub returns-then-signed-clause-there : goal.returns-then-signed-clause-there
returns-then-signed-clause-there c = extended_there _ c.args.word.now _ c.args.to _ c.requires.some c.extended.ensures c.requires.word

pub returns-then-signed-clause-value : goal.returns-then-signed-clause-value
returns-then-signed-clause-value c a v = extended_sign a c.args.word.now _ c.args.to _ c.args.signed c.requires.some c.if-signed.true (omega (arith, c.if-to-word.false)) c.extended.ensures

pub returns-clause-value : goal.returns-clause-value
returns-clause-value c a v = extended_zeros a c.args.word.now _ c.args.to _ c.args.signed c.if-signed.false (omega (arith, c.if-to-word.false)) c.extended-2.ensures (c.falsity.ensures.value a v)
