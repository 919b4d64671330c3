-- The tables of the examples pass the test, by computation.
use Rattle.std.proofs.Common.{◌≡◌, true, refl}
use Rattle.ll_parse.specs.Conditions.{IsLl}
use Rattle.ll_parse.specs.Examples.{NESTED, CONDITIONAL}
use Rattle.ll_parse.specs.Test.{is_ll}
use Rattle.ll_parse.proofs.Fits.{fits}

nested_passes : is_ll NESTED ≡ true
unfolding NESTED
nested_passes = refl

conditional_passes : is_ll CONDITIONAL ≡ true
unfolding CONDITIONAL
conditional_passes = refl

pub nested_is_ll : IsLl NESTED
nested_is_ll = fits NESTED nested_passes

pub conditional_is_ll : IsLl CONDITIONAL
conditional_is_ll = fits CONDITIONAL conditional_passes
