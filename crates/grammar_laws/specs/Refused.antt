-- Where a text can't go on.
use Rattle.std.specs.Prelude.{ℕ, ◌<◌, List, length, map, take}
use Rattle.std.proofs.Common.{suc}
use Rattle.ll_parse.specs.Grammar.{Grammar, Parses, Begins}
use Rattle.ll_parse.specs.Tables.{grammar_of}
use Rattle.text_scan.specs.Tokens.{tokens_of}
use Rattle.text_scan.specs.declared.scanner.Token.{Token}
use Rattle.c_grammar.specs.Table.{TABLE}
use Rattle.c_tokens.specs.Directives.{c_tokens}
use Rattle.c_tokens.specs.declared.directives.CToken.{CToken}
use Rattle.v_grammar.specs.Verilog.{VERILOG}
use Rattle.v_tokens.specs.Rules.{kind_of, is_blank_line}

-- The tokens have no parse tree, and no text of the grammar begins with those up to and with token i; where i is their
-- number, it is the end that comes too early.
pub record Stops (g : Grammar) (tokens : List ℕ) (i : ℕ) : Type 0 where
  pub none : (productions : List ℕ) → Parses g tokens productions → ⊥
  pub least : i < length tokens → Begins g (take (suc i) tokens) → ⊥

-- the kinds of the tokens of a C text
abbrev pub c_kinds : List ℕ → List ℕ
c_kinds text = map (λ (t : CToken). t.kind) (c_tokens text)

-- the kinds of the tokens of a Verilog text
abbrev pub verilog_kinds : List ℕ → List ℕ
verilog_kinds text = map (λ (t : Token). t.kind) (tokens_of kind_of is_blank_line text)

-- the C text has no tree, and can't go on at token i
pub record CStopsAt (text : List ℕ) (i : ℕ) : Type 0 where
  pub stops : Stops (grammar_of TABLE) (c_kinds text) i

-- the Verilog text has no tree, and can't go on at token i
pub record VerilogStopsAt (text : List ℕ) (i : ℕ) : Type 0 where
  pub stops : Stops (grammar_of VERILOG) (verilog_kinds text) i
