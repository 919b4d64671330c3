-- The table of the example passes its tests, by computation.
use Rattle.std.proofs.Common.{◌≡◌, true, refl}
use Rattle.ll_parse.specs.Conditions.{IsLl}
use Rattle.ll_parse.specs.Test.{is_ll}
use Rattle.ll_parse.proofs.Fits.{fits}
use Rattle.ll_actions.specs.After.{are_placed}
use Rattle.ll_actions.specs.Examples.{SUMS, SIGNATURES, EFFECTS, AFTER, SPOTS, NUMBER}
use Rattle.ll_actions.specs.Sorts.{is_typed}
use Rattle.ll_actions.specs.declared.examples.TheConstants.{SUM_MARKS}

passes : is_ll SUMS ≡ true
unfolding SUMS
passes = refl

pub sums_is_ll : IsLl SUMS
sums_is_ll = fits SUMS passes

pub sums_typed : is_typed SUMS SUM_MARKS SIGNATURES EFFECTS NUMBER ≡ true
unfolding SUMS SIGNATURES EFFECTS
sums_typed = refl

pub sums_placed : are_placed SUMS SUM_MARKS AFTER SPOTS ≡ true
unfolding SUMS AFTER SPOTS
sums_placed = refl
