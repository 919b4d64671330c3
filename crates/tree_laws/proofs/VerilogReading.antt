-- The tree of a Verilog text of ASCII bytes, by computing.
use Rattle.std.proofs.Common.{◌≡◌, ℕ, ◌-◌, true, List, [], ◌∷◌, Option, Some, None, drop, length, refl, sym, ap, ◌∙◌}
use Rattle.std.specs.Prelude.{Bool, false, if◌then◌else◌, slice_get, slice_index, option_and_then}
use Rattle.std.specs.Str.{IsAscii}
use Rattle.std.proofs.lemmas.Str.{IsAscii-drop}
use Rattle.ll_actions.specs.declared.step.Step.{Step}
use Rattle.ll_actions.specs.Steps.{steps_of}
use Rattle.text_scan.specs.declared.scanner.Token.{Token}
use Rattle.text_scan.specs.Words.{run_len}
use Rattle.v_tokens.specs.Rules.{kind_of, is_blank_line, is_space}
use Rattle.v_actions.specs.Acts.{after_action, built}
use Rattle.v_actions.specs.ConnectionActions.{after_connection_action}
use Rattle.v_actions.specs.DeclarationActions.{after_declaration_action}
use Rattle.v_actions.specs.ExpressionActions.{after_expression_action}
use Rattle.v_actions.specs.ModuleActions.{after_module_action}
use Rattle.v_actions.specs.Numbers.{action_of}
use Rattle.v_actions.specs.StatementActions.{after_statement_action}
use Rattle.v_actions.specs.Reading.{V, kinds_of, tokens_in, places_of, lexemes, actions_of, IsVerilogSource}
use Rattle.v_actions.specs.Tokens.{Lexemes, place_in, bytes_of, bytes_at, based_part, base_of, is_signed, without_spaces, token_value}
use Rattle.v_actions.specs.declared.actions.Action.{Action}
use Rattle.v_actions.specs.declared.actions.TokenAction.{TokenAction}
use Rattle.v_actions.specs.declared.actions.TokenAction.TheVariants as Read
use Rattle.v_stack.specs.Values.{Values}
use Rattle.v_stack.specs.declared.values.ModuleValue.TheVariants as ModuleValue
use Rattle.v_stack.specs.declared.values.TokenValue.TheVariants as TokenValue
use Rattle.v_stack.specs.declared.values.Value.{Value}
use Rattle.v_grammar.specs.Verilog.{VERILOG}
use Rattle.v_grammar.specs.declared.TheConstants.{MARKS}
use Rattle.v_grammar.proofs.Fit.{verilog_is_ll}
use Rattle.v_tree.specs.declared.item.VTree.{VTree}
use Rattle.grammar_laws.proofs.InOrder.{placed_in_order, placed_in_order_is, tokens_in_order, tokens_in_order_is, at_tokens, at_tokens_is}
use Rattle.tree_laws.proofs.Productions.{productions, derives}
use Rattle.tree_laws.proofs.Spellings.{are_ascii, ascii, part, spelled}

-- what is made of token i, with its bytes for its text
abbrev plain_value : Lexemes → TokenAction → ℕ → Value
plain_value x Read.Place i = token_value x Read.Place i
plain_value x Read.Name i = Value.Token (TokenValue.Name (record { place = place_in x.places i; name = bytes_at x.text x.tokens i }))
plain_value x Read.Declared i = Value.Token (TokenValue.Declared (record { place = place_in x.places i; name = bytes_at x.text x.tokens i }))
plain_value x Read.Decimal i = Value.Token (TokenValue.Decimal (record { place = place_in x.places i; digits = bytes_at x.text x.tokens i }))
plain_value x Read.Based i =
    let bytes = bytes_at x.text x.tokens i in
    Value.Token (TokenValue.Based (record {
      place = place_in x.places i;
      signed = is_signed bytes;
      base = base_of (slice_index (based_part bytes) 0);
      digits = without_spaces (drop 1 (based_part bytes));
    }))
plain_value x (Read.Direction kind) i = token_value x (Read.Direction kind) i
plain_value x (Read.Unary op) i = token_value x (Read.Unary op) i
plain_value x (Read.Binary op) i = token_value x (Read.Binary op) i

abbrev plain_act : Lexemes → Action → ℕ → Values → Option Values
plain_act x (Action.Token a) i st = Some (plain_value x a (i - 1) ∷ st)
plain_act x (Action.Expression a) i st = after_expression_action a st
plain_act x (Action.Statement a) i st = after_statement_action a st
plain_act x (Action.Declaration a) i st = after_declaration_action a st
plain_act x (Action.Connection a) i st = after_connection_action a st
plain_act x (Action.Module a) i st = after_module_action a st

abbrev plainly_built : Lexemes → List Step → Values → Option Values
plainly_built x [] st = Some st
plainly_built x (s ∷ ss) st = option_and_then (plainly_built x ss) (plain_act x (action_of s.action) s.token st)

module _ (x : Lexemes) (h : IsAscii x.text) where
  bytes_ascii : (i : ℕ) → IsAscii (bytes_at x.text x.tokens i)
  bytes_ascii i = on (slice_get x.tokens i)
    where
      on : (o : Option Token) → IsAscii (bytes_of x.text o)
      on None = ascii [] refl
      on (Some t) = part x.text t.len t.start h

  digits_ascii : (bs : List ℕ) → IsAscii bs → IsAscii (without_spaces (drop 1 (based_part bs)))
  digits_ascii bs k = IsAscii-drop (drop 1 (based_part bs)) (run_len is_space (drop 1 (based_part bs))) (IsAscii-drop (based_part bs) 1 (on (is_signed bs)))
    where
      on : (b : Bool) → IsAscii (if b then drop 2 bs else drop 1 bs)
      on true = IsAscii-drop bs 2 k
      on false = IsAscii-drop bs 1 k

  value_same : (a : TokenAction) (i : ℕ) → token_value x a i ≡ plain_value x a i
  value_same Read.Place i = refl
  value_same Read.Name i = ap (λ text. Value.Token (TokenValue.Name (record { place = place_in x.places i; name = text }))) (spelled (bytes_at x.text x.tokens i) (bytes_ascii i))
  value_same Read.Declared i = ap (λ text. Value.Token (TokenValue.Declared (record { place = place_in x.places i; name = text }))) (spelled (bytes_at x.text x.tokens i) (bytes_ascii i))
  value_same Read.Decimal i = ap (λ text. Value.Token (TokenValue.Decimal (record { place = place_in x.places i; digits = text }))) (spelled (bytes_at x.text x.tokens i) (bytes_ascii i))
  value_same Read.Based i =
      let bytes = bytes_at x.text x.tokens i in
      ap (λ text. Value.Token (TokenValue.Based (record {
        place = place_in x.places i;
        signed = is_signed bytes;
        base = base_of (slice_index (based_part bytes) 0);
        digits = text;
      }))) (spelled (without_spaces (drop 1 (based_part bytes))) (digits_ascii bytes (bytes_ascii i)))
  value_same (Read.Direction kind) i = refl
  value_same (Read.Unary op) i = refl
  value_same (Read.Binary op) i = refl

  act_same : (a : Action) (i : ℕ) (st : Values) → after_action x a i st ≡ plain_act x a i st
  act_same (Action.Token a) i st = ap (λ value. Some (value ∷ st)) (value_same a (i - 1))
  act_same (Action.Expression a) i st = refl
  act_same (Action.Statement a) i st = refl
  act_same (Action.Declaration a) i st = refl
  act_same (Action.Connection a) i st = refl
  act_same (Action.Module a) i st = refl

  goes_on_same : (ss : List Step) → ((st : Values) → built x ss st ≡ plainly_built x ss st)
      → (o : Option Values) → option_and_then (built x ss) o ≡ option_and_then (plainly_built x ss) o
  goes_on_same ss same None = refl
  goes_on_same ss same (Some st) = same st

  built_same : (ss : List Step) (st : Values) → built x ss st ≡ plainly_built x ss st
  built_same [] st = refl
  built_same (s ∷ ss) st =
      ap (option_and_then (built x ss)) (act_same (action_of s.action) s.token st)
      ∙ goes_on_same ss (λ st. built_same ss st) (plain_act x (action_of s.action) s.token st)

abbrev lexemes_of : List ℕ → List Token → Lexemes
lexemes_of text tokens = record { text = text; tokens = tokens; places = places_of text tokens }

-- what the actions of these productions leave
abbrev left_of : List ℕ → List Token → Option (List ℕ) → Option Values
left_of text tokens None = None
left_of text tokens (Some ps) = plainly_built (lexemes_of text tokens) (steps_of MARKS (placed_in_order V ps 0 (V.start ∷ []))) []

abbrev left_by : List ℕ → List Token → Option Values
left_by text tokens = left_of text tokens (productions VERILOG 9999 (V.start ∷ []) (kinds_of tokens))

-- what the reading of a text leaves
abbrev reading : List ℕ → Option Values
reading text = at_tokens (tokens_in_order kind_of is_blank_line (length text) true 0 text) (left_by text)

reading_is : (text : List ℕ) → reading text ≡ left_by text (tokens_in text)
reading_is text =
    at_tokens_is (tokens_in_order kind_of is_blank_line (length text) true 0 text) (left_by text)
    ∙ ap (left_by text) (tokens_in_order_is kind_of is_blank_line (length text) true 0 text)

abbrev Leaves : Option Values → VTree → Type 0
Leaves left tree = left ≡ Some (Value.Module (ModuleValue.Source tree) ∷ [])

pub is_source : (text : List ℕ) (tree : VTree) → are_ascii text ≡ true → Leaves (reading text) tree → IsVerilogSource text tree
is_source text tree plain h = on (productions VERILOG 9999 (V.start ∷ []) (kinds_of (tokens_in text))) refl (sym (reading_is text) ∙ h)
  where
    on : (o : Option (List ℕ)) → productions VERILOG 9999 (V.start ∷ []) (kinds_of (tokens_in text)) ≡ o → Leaves (left_of text (tokens_in text) o) tree → IsVerilogSource text tree
    on None e h = let z : None ≡ Some (Value.Module (ModuleValue.Source tree) ∷ []) = h in cc
    on (Some ps) e h = record {
      productions = ps;
      parses = derives VERILOG verilog_is_ll 9999 (V.start ∷ []) (kinds_of (tokens_in text)) ps e;
      builds =
          built_same (lexemes text) (ascii text plain) (actions_of ps) []
          ∙ ap (λ placed. plainly_built (lexemes text) (steps_of MARKS placed) []) (sym (placed_in_order_is V ps 0 (V.start ∷ [])))
          ∙ h;
    }
