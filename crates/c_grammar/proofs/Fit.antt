-- The table passes the tests, by computation.
use Rattle.std.proofs.Common.{◌≡◌, true, refl}
use Rattle.ll_parse.specs.Conditions.{IsLl}
use Rattle.ll_parse.specs.Productions.{HasProductions}
use Rattle.ll_parse.specs.Test.{is_ll}
use Rattle.c_grammar.specs.Productions.{PRODUCTIONS}
use Rattle.c_grammar.specs.Symbols.{FIRST_ACTION}
use Rattle.ll_parse.proofs.Fits.{fits}
use Rattle.ll_actions.specs.After.{are_placed}
use Rattle.ll_actions.specs.Sorts.{is_typed}
use Rattle.c_grammar.specs.Table.{TABLE}
use Rattle.c_grammar.specs.Actions.{SIGNATURES, EFFECTS, AFTER, SPOTS}
use Rattle.c_grammar.specs.declared.TheConstants.{MARKS}

passes : is_ll TABLE ≡ true
unfolding TABLE
passes = refl

pub c_is_ll : IsLl TABLE
c_is_ll = fits TABLE passes

-- a text gives one value of the sort of trees
pub c_is_typed : is_typed TABLE MARKS SIGNATURES EFFECTS 1 ≡ true
unfolding TABLE SIGNATURES EFFECTS
c_is_typed = refl

pub c_is_placed : are_placed TABLE MARKS AFTER SPOTS ≡ true
unfolding TABLE AFTER SPOTS
c_is_placed = refl

-- the table has the productions of the profile
pub has_productions : HasProductions TABLE FIRST_ACTION PRODUCTIONS
unfolding TABLE PRODUCTIONS
has_productions = record { productions = refl; actions = refl }
