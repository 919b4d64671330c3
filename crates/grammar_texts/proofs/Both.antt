-- Both tables pass the tests, by computing.
use Rattle.std.proofs.Common.{refl, arith}
use Rattle.c_grammar.specs.Productions.{PRODUCTIONS}
use Rattle.c_grammar.specs.Symbols.{FIRST_ACTION}
use Rattle.c_grammar.specs.Table.{TABLE}
use Rattle.c_grammar.proofs.Fit.{has_productions}
use Rattle.v_grammar.specs.Productions.{PRODUCTIONS as V_PRODUCTIONS}
use Rattle.v_grammar.specs.Symbols.{FIRST_ACTION as V_FIRST_ACTION}
use Rattle.v_grammar.specs.Verilog.{VERILOG}
use Rattle.v_grammar.proofs.Fit.{has_productions as v_has_productions}
use Rattle.grammar_texts.specs.Listed.{SameTexts}
use Rattle.grammar_texts.proofs.Same.{same}

pub c_same : SameTexts TABLE PRODUCTIONS
unfolding TABLE PRODUCTIONS
c_same = same TABLE FIRST_ACTION PRODUCTIONS has_productions (omega arith) (omega arith) refl refl refl (λ e. omega (arith, e))

pub verilog_same : SameTexts VERILOG V_PRODUCTIONS
unfolding VERILOG V_PRODUCTIONS
verilog_same = same VERILOG V_FIRST_ACTION V_PRODUCTIONS v_has_productions (omega arith) (omega arith) refl refl refl (λ e. omega (arith, e))
