-- The small Verilog texts stop there, by computing.
use Rattle.std.proofs.Common.{◌≡◌, ℕ, true, List, [], ◌∷◌, Option, Some, length, map, refl, sym, ap, ◌∙◌}
use denote.Hole.Carrier.{hidden}
use Rattle.text_scan.specs.Tokens.{tokens_of}
use Rattle.text_scan.specs.declared.scanner.Token.{Token}
use Rattle.v_grammar.specs.Verilog.{VERILOG}
use Rattle.v_grammar.proofs.Fit.{verilog_is_ll}
use Rattle.v_tokens.specs.Kinds.{MARKS, KEYWORDS}
use Rattle.v_tokens.specs.Rules.{kind_of, is_blank_line}
use Rattle.grammar_laws.specs.VerilogRefusals.{VerilogRefusals}
use Rattle.grammar_laws.specs.Refused.{VerilogStopsAt}
use Rattle.grammar_laws.proofs.InOrder.{at_tokens, at_tokens_is, tokens_in_order, tokens_in_order_is}
use Rattle.grammar_laws.proofs.Stops.{stop, stops}

abbrev stop_by : List Token → Option ℕ
stop_by tokens = stop VERILOG 9999 (VERILOG.start ∷ []) (map (λ (t : Token). t.kind) tokens)

abbrev reading : List ℕ → Option ℕ
reading text = at_tokens (tokens_in_order kind_of is_blank_line (length text) true 0 text) stop_by

reading_is : (text : List ℕ) → reading text ≡ stop_by (tokens_of kind_of is_blank_line text)
reading_is text =
    at_tokens_is (tokens_in_order kind_of is_blank_line (length text) true 0 text) stop_by
    ∙ ap stop_by (tokens_in_order_is kind_of is_blank_line (length text) true 0 text)

verilog_stops : (text : List ℕ) (i : ℕ) → reading text ≡ Some i → VerilogStopsAt text i
verilog_stops text i h = record { stops = stops VERILOG verilog_is_ll 9999 (map (λ (t : Token). t.kind) (tokens_of kind_of is_blank_line text)) i (sym (reading_is text) ∙ h) }

pub verilog_refusals : VerilogRefusals
unfolding VERILOG MARKS KEYWORDS hidden
verilog_refusals = record {
  semicolon_missing = verilog_stops _ _ refl;
  falling_edge = verilog_stops _ _ refl;
  delay = verilog_stops _ _ refl;
  function = verilog_stops _ _ refl;
  lone_else = verilog_stops _ _ refl;
  empty_case = verilog_stops _ _ refl;
  wire_without_value = verilog_stops _ _ refl;
  hierarchical_name = verilog_stops _ _ refl;
  case_equality = verilog_stops _ _ refl;
  memory_with_value = verilog_stops _ _ refl;
  based_without_digits = verilog_stops _ _ refl;
  open_block = verilog_stops _ _ refl;
  lone_end = verilog_stops _ _ refl;
}
