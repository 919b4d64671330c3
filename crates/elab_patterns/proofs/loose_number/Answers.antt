use Rattle.std.proofs.Common.{refl}
use Rattle.elab_names.specs.Constants.{radix}
use Rattle.elab_patterns.specs.Patterns.{begins_loose, loose_digit, padding}
use Rattle.elab_patterns.proofs.Digits.{loose_more}
use Rattle.elab_patterns.proofs.loose_number.Goals as goal

pub loop-byte-preserved : goal.loop-byte-preserved
loop-byte-preserved c =
    loose_more (radix c.args.base) 340282366920938463463374607431768211456 _ _ c.loop-byte.byte-index _ 0 (padding c.args.base (begins_loose c.args.base c.args.digits.now)) c.args.digits.now (loose_digit c.args.base)
    c.loop-byte-test.true refl c.loop-byte.invariant c.with_digit-bits.ensures
