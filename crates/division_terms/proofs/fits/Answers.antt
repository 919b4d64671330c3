use Rattle.std.proofs.Common.{◌≡◌, ◌-◌, ◌^◌, sym, subst, arith}
use Rattle.std.proofs.lemmas.Nat.{pow_pos}
use Rattle.checked_terms.proofs.Fits.{doubled}
use Rattle.division_terms.proofs.Divided.{fits_made}
use Rattle.division_terms.proofs.fits.Goals as goal

pub is_number-requires-clause-below : goal.is_number-requires-clause-below
is_number-requires-clause-below c =
    let d = doubled c.args.a.width c.requires.some in
    let p = pow_pos (c.args.a.width - 1) in
    let e = c.half.ensures in
    omega arith

pub returns : goal.returns
returns c =
    fits_made c.args.terms.now c.is_number.new.terms c.is_number-2.new.terms c.two.new.terms c.one.new.terms c.args.a c.args.b c.in_ok-least.least c.in_ok-minus_one.minus_one c.in_ok-both.both c.in_ok-t.t
    c.half.result c.ones.result c.requires.same c.half.ensures (subst (λ w. c.ones.result ≡ 2 ^ w - 1) (sym c.requires.same) c.ones.ensures) c.in_ok-least.ensures c.in_ok-minus_one.ensures c.in_ok-both.ensures c.in_ok-t.ensures
