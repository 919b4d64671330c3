-- What it means that a text has a tree: its tokens have a derivation, and the actions of that, in order, build the tree.
use Rattle.std.specs.Prelude.{◌≡◌, ℕ, List, [], ◌∷◌, map, Option, Some}
use Rattle.ll_actions.specs.declared.step.Step.{Step}
use Rattle.ll_actions.specs.Steps.{steps_of}
use Rattle.ll_parse.specs.Grammar.{Grammar, Parses}
use Rattle.ll_parse.specs.Places.{placed}
use Rattle.ll_parse.specs.Tables.{grammar_of}
use Rattle.src_text.specs.Place.{place_at}
use Rattle.src_text.specs.declared.refusal.Place.{Place}
use Rattle.text_scan.specs.declared.scanner.Token.{Token}
use Rattle.text_scan.specs.Tokens.{tokens_of}
use Rattle.v_actions.specs.Acts.{built}
use Rattle.v_actions.specs.Tokens.{Lexemes}
use Rattle.v_stack.specs.Values.{Values}
use Rattle.v_stack.specs.declared.values.ModuleValue.TheVariants as ModuleValue
use Rattle.v_stack.specs.declared.values.Value.TheVariants as Value
use Rattle.v_grammar.specs.Verilog.{VERILOG}
use Rattle.v_grammar.specs.declared.TheConstants.{MARKS}
use Rattle.v_tokens.specs.Rules.{kind_of, is_blank_line}
use Rattle.v_tree.specs.declared.item.VTree.{VTree}

-- the grammar of the Verilog profile
abbrev pub V : Grammar
V = grammar_of VERILOG

-- the tokens of a text, without blanks, comments and lines of directives that count as blank
abbrev pub tokens_in : List ℕ → List Token
tokens_in text = tokens_of kind_of is_blank_line text

-- the kinds of tokens, which are what the grammar derives
abbrev pub kinds_of : List Token → List ℕ
kinds_of tokens = map (λ (t : Token). t.kind) tokens

-- the places of tokens, each that of the token's first byte
abbrev pub places_of : List ℕ → List Token → List Place
places_of text tokens = map (λ (t : Token). place_at text t.start) tokens

-- a text, its tokens, and the place of each
abbrev pub lexemes : List ℕ → Lexemes
lexemes text = record { text = text; tokens = tokens_in text; places = places_of text (tokens_in text) }

-- the actions of a derivation, in the order of the text
abbrev pub actions_of : List ℕ → List Step
actions_of productions = steps_of MARKS (placed V 0 (V.start ∷ []) productions)

-- what builds a tree, and that tree
pub record BuildsTree (o : Option Values) : Type 0 where
  pub tree : VTree
  pub is : o ≡ Some (Value.Module (ModuleValue.Source tree) ∷ [])

-- The text is Verilog, and this is its tree.
pub record IsVerilogSource (text : List ℕ) (tree : VTree) : Type 0 where
  pub productions : List ℕ
  pub parses : Parses V (kinds_of (tokens_in text)) productions
  pub builds : built (lexemes text) (actions_of productions) [] ≡ Some (Value.Module (ModuleValue.Source tree) ∷ [])
