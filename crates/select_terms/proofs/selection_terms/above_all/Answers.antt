use Rattle.std.proofs.Common.{◌-◌, ◌*◌, ◌^◌, arith}
use Rattle.bits_core.proofs.Laws.{pow_le}
use Rattle.std.proofs.Math.Nat.{mod-le}
use Rattle.select_terms.proofs.selection_terms.above_all.Goals as goal

pub returns-then-signed-clause-within : goal.returns-then-signed-clause-within
returns-then-signed-clause-within c =
    let h = c.requires.within in
    let l = pow_le (c.args.width - 1) 127 (omega arith) in
    let m = mod-le (1 * 2 ^ (c.args.width - 1)) 340282366920938463463374607431768211456 in
    omega arith

pub returns-else-signed-clause-within : goal.returns-else-signed-clause-within
returns-else-signed-clause-within c =
    let h = c.requires.within in
    let l = pow_le c.args.width 127 (omega arith) in
    let m = mod-le (1 * 2 ^ c.args.width) 340282366920938463463374607431768211456 in
    omega arith
