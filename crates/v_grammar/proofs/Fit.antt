-- The table passes its tests, by computation.
use Rattle.std.proofs.Common.{◌≡◌, ℕ, List, [], ◌∷◌, true, refl}
use Rattle.std.specs.declared.option.Option.TheVariants.{Some}
use Rattle.ll_actions.specs.Sorts.{is_typed, sorts_after}
use Rattle.ll_actions.specs.Steps.{steps_of}
use Rattle.ll_actions.proofs.Typed.{typed_steps}
use Rattle.ll_parse.specs.Conditions.{IsLl}
use Rattle.ll_parse.specs.Grammar.{Parses}
use Rattle.ll_parse.specs.Places.{placed}
use Rattle.ll_parse.specs.Tables.{grammar_of}
use Rattle.ll_parse.specs.Productions.{HasProductions}
use Rattle.ll_parse.specs.Test.{is_ll}
use Rattle.v_grammar.specs.Productions.{PRODUCTIONS}
use Rattle.v_grammar.specs.Symbols.{FIRST_ACTION}
use Rattle.ll_parse.proofs.Fits.{fits}
use Rattle.v_grammar.specs.declared.TheConstants.{MARKS}
use Rattle.v_grammar.specs.Sorts.{SIGNATURES, EFFECTS}
use Rattle.v_grammar.specs.Verilog.{VERILOG}

passes : is_ll VERILOG ≡ true
unfolding VERILOG
passes = refl

pub verilog_is_ll : IsLl VERILOG
verilog_is_ll = fits VERILOG passes

-- sort 51 is that of a whole text
passes_sorts : is_typed VERILOG MARKS SIGNATURES EFFECTS 51 ≡ true
unfolding VERILOG SIGNATURES EFFECTS
passes_sorts = refl

-- The steps of a text find the values that they take, and leave its tree.
pub verilog_is_typed : (ts ps : List ℕ) → Parses (grammar_of VERILOG) ts ps →
    sorts_after SIGNATURES (steps_of MARKS (placed (grammar_of VERILOG) 0 (VERILOG.start ∷ []) ps)) [] ≡ Some (51 ∷ [])
verilog_is_typed = typed_steps VERILOG verilog_is_ll MARKS SIGNATURES EFFECTS 51 passes_sorts

-- the table has the productions of the profile
pub has_productions : HasProductions VERILOG FIRST_ACTION PRODUCTIONS
unfolding VERILOG PRODUCTIONS
has_productions = record { productions = refl; actions = refl }
