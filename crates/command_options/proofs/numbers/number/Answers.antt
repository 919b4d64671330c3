use Rattle.std.proofs.Common.{sym, arith}
use Rattle.command_options.proofs.Numerals.{unparsed}
use Rattle.command_options.proofs.numbers.number.Goals as goal

pub returns-in-Err : goal.returns-in-Err
returns-in-Err c = unparsed c.args.low c.args.high c.args.text.now (omega (arith, c.ranges.high.fits)) (sym c.if-not-is_number.ensures) c.in-Err.ensures.value.0
