-- The small C texts stop there, by computing.
use Rattle.std.proofs.Common.{◌≡◌, ℕ, List, [], ◌∷◌, Option, Some, map, refl, sym, ◌∙◌}
use denote.Hole.Carrier.{hidden}
use Rattle.c_grammar.specs.Table.{TABLE}
use Rattle.c_grammar.proofs.Fit.{c_is_ll}
use Rattle.c_tokens.specs.Directives.{c_tokens}
use Rattle.c_tokens.specs.Kinds.{MARKS, KEYWORDS, SUFFIXES}
use Rattle.c_tokens.specs.declared.directives.CToken.{CToken}
use Rattle.grammar_laws.specs.CRefusals.{CRefusals}
use Rattle.grammar_laws.specs.Refused.{CStopsAt}
use Rattle.grammar_laws.proofs.CTokens.{at_c_text, at_c_text_is}
use Rattle.grammar_laws.proofs.Stops.{stop, stops}

abbrev stop_by : List CToken → Option ℕ
stop_by tokens = stop TABLE 9999 (TABLE.start ∷ []) (map (λ (t : CToken). t.kind) tokens)

c_stops : (text : List ℕ) (i : ℕ) → at_c_text text stop_by ≡ Some i → CStopsAt text i
c_stops text i h = record { stops = stops TABLE c_is_ll 9999 (map (λ (t : CToken). t.kind) (c_tokens text)) i (sym (at_c_text_is text stop_by) ∙ h) }

pub c_refusals : CRefusals
unfolding TABLE MARKS KEYWORDS SUFFIXES hidden
c_refusals = record {
  switch_without_body = c_stops _ _ refl;
  jump = c_stops _ _ refl;
  reserved_alone = c_stops _ _ refl;
  reserved_declaration = c_stops _ _ refl;
  assignment_as_value = c_stops _ _ refl;
  value_as_statement = c_stops _ _ refl;
  comma_operator = c_stops _ _ refl;
  call_in_value = c_stops _ _ refl;
  operand_missing = c_stops _ _ refl;
  lone_else = c_stops _ _ refl;
  lone_label = c_stops _ _ refl;
  two_dimensions = c_stops _ _ refl;
  pointer = c_stops _ _ refl;
  unsigned_truth = c_stops _ _ refl;
  struct_without_members = c_stops _ _ refl;
  two_literals = c_stops _ _ refl;
  early_end = c_stops _ _ refl;
  open_block = c_stops _ _ refl;
}
