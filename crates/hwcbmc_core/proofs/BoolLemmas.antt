-- What the other answer says of a test.
use Rattle.std.proofs.Common.{◌≡◌, Bool, true, false, not, refl}

pub true_from_not : (b : Bool) → false ≡ not b → b ≡ true
true_from_not true h = refl
true_from_not false h = cc

pub false_from_not : (b : Bool) → true ≡ not b → b ≡ true → ⊥
false_from_not true h is = cc
false_from_not false h is = cc
