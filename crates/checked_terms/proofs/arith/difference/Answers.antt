use Rattle.std.proofs.Common.{◌+◌, ◌*◌, refl, arith}
use Rattle.std.specs.Prelude.{◌-ℤ◌}
use Rattle.bits_core.specs.declared.op.Op2.TheVariants.{Sub}
use Rattle.checked_terms.proofs.Results.{exact_result, unsigned_result, differences}
use Rattle.checked_terms.proofs.arith.difference.Goals as goal

pub returns-in_ok-r : goal.returns-in_ok-r
returns-in_ok-r c =
    exact_result c.args.terms.now c.signed.new.terms c.args.ty c.args.other Sub (c.args.ty.bits + 1) (8 * (10 * c.args.ty.bits + 32)) c.args.a c.args.b c.in_ok-r.r ◌-ℤ◌
    c.if-ty.true c.requires.first c.requires.second c.requires.width_a c.requires.width_b (differences c.args.ty.bits) (omega arith) c.in_ok-r.ensures

pub returns-in_ok-r-2 : goal.returns-in_ok-r-2
returns-in_ok-r-2 c =
    unsigned_result c.args.terms.now c.unsigned.new.terms c.args.ty c.args.other Sub (8 * (10 * c.args.ty.bits + 32)) c.args.a c.args.b c.in_ok-r-2.r ◌-ℤ◌
    c.requires.ty c.if-ty.false (c.requires.wraps c.if-ty.false) c.requires.width_a refl (omega arith) (λ x y. refl) c.in_ok-r-2.ensures.plain c.in_ok-r-2.ensures.made
