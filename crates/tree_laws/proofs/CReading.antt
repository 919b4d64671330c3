-- The tree of a C text of ASCII bytes, by computing.
use Rattle.std.proofs.Common.{◌≡◌, ℕ, true, List, [], ◌∷◌, Option, Some, None, refl, sym, ap, ◌∙◌}
use Rattle.std.specs.Prelude.{option_and_then}
use Rattle.std.specs.Str.{IsAscii}
use Rattle.ll_actions.specs.Steps.{steps_of}
use Rattle.ll_actions.specs.declared.step.Step.{Step}
use Rattle.src_text.specs.Place.{place_at}
use Rattle.src_text.specs.declared.refusal.Place.{Place}
use Rattle.c_tokens.specs.Directives.{c_tokens}
use Rattle.c_tokens.specs.declared.directives.CToken.{CToken}
use Rattle.c_actions.specs.Acts.{after_token_action, after_file_action, after_action}
use Rattle.c_actions.specs.ExpressionActions.{after_expression_action}
use Rattle.c_actions.specs.DeclarationActions.{after_declaration_action}
use Rattle.c_actions.specs.StatementActions.{after_statement_action}
use Rattle.c_actions.specs.Numbers.{action_of}
use Rattle.c_actions.specs.Reading.{C, kinds_of, token_before, end_of, spelling, built, actions_of, IsCSource}
use Rattle.c_actions.specs.declared.actions.Action.{Action}
use Rattle.c_actions.specs.declared.actions.TokenAction.{TokenAction}
use Rattle.c_actions.specs.declared.actions.TokenAction.TheVariants as Read
use Rattle.c_stack.specs.Values.{Values}
use Rattle.c_stack.specs.declared.values.ExpressionValue.TheVariants as ExpressionValue
use Rattle.c_stack.specs.declared.values.FileValue.TheVariants as FileValue
use Rattle.c_stack.specs.declared.values.TokenValue.TheVariants as TokenValue
use Rattle.c_stack.specs.declared.values.Value.TheVariants as Value
use Rattle.c_grammar.specs.Table.{TABLE}
use Rattle.c_grammar.specs.declared.TheConstants.{MARKS}
use Rattle.c_grammar.proofs.Fit.{c_is_ll}
use Rattle.c_tree.specs.declared.expressions.Expression.TheVariants as Expression
use Rattle.c_tree.specs.declared.file.CTree.{CTree}
use Rattle.grammar_laws.proofs.CTokens.{at_c_text, at_c_text_is}
use Rattle.grammar_laws.proofs.InOrder.{placed_in_order, placed_in_order_is}
use Rattle.tree_laws.proofs.Productions.{productions, derives}
use Rattle.tree_laws.proofs.Spellings.{are_ascii, ascii, part, spelled}

-- what is made of a token, with its bytes for its text
abbrev after_plain_token : TokenAction → Place → List ℕ → Values → Option Values
after_plain_token Read.Name place bytes st = Some (Value.Token (TokenValue.Name (record { place = place; name = bytes })) ∷ st)
after_plain_token Read.Declared place bytes st = Some (Value.Token (TokenValue.Declared (record { place = place; name = bytes })) ∷ st)
after_plain_token Read.Integer place bytes st = Some (Value.Expression (ExpressionValue.Expression (Expression.Integer place bytes)) ∷ st)
after_plain_token Read.Place place bytes st = after_token_action Read.Place place bytes st
after_plain_token Read.Character place bytes st = after_token_action Read.Character place bytes st
after_plain_token Read.True place bytes st = after_token_action Read.True place bytes st
after_plain_token Read.False place bytes st = after_token_action Read.False place bytes st
after_plain_token Read.Static place bytes st = after_token_action Read.Static place bytes st
after_plain_token (Read.Type integer) place bytes st = after_token_action (Read.Type integer) place bytes st
after_plain_token (Read.Sign word) place bytes st = after_token_action (Read.Sign word) place bytes st
after_plain_token (Read.Unary operator) place bytes st = after_token_action (Read.Unary operator) place bytes st
after_plain_token (Read.Binary operator) place bytes st = after_token_action (Read.Binary operator) place bytes st
after_plain_token (Read.Assignment operator) place bytes st = after_token_action (Read.Assignment operator) place bytes st
after_plain_token (Read.Step operator) place bytes st = after_token_action (Read.Step operator) place bytes st

abbrev after_plainly : Action → (end place : Place) → List ℕ → Values → Option Values
after_plainly (Action.Token a) end place bytes st = after_plain_token a place bytes st
after_plainly (Action.Expression a) end place bytes st = after_expression_action a st
after_plainly (Action.Declaration a) end place bytes st = after_declaration_action a st
after_plainly (Action.Statement a) end place bytes st = after_statement_action a st
after_plainly (Action.File a) end place bytes st = after_file_action a end st

abbrev plain_step : (text : List ℕ) → List CToken → Step → Values → Option Values
plain_step text tokens s st =
    let t = token_before tokens s.token in
    after_plainly (action_of s.action) (end_of text) (place_at text t.at) (spelling text t) st

abbrev plainly_built : (text : List ℕ) → List CToken → List Step → Values → Option Values
plainly_built text tokens [] st = Some st
plainly_built text tokens (s ∷ ss) st = option_and_then (plainly_built text tokens ss) (plain_step text tokens s st)

token_same : (a : TokenAction) (place : Place) (bytes : List ℕ) → IsAscii bytes → (st : Values) → after_token_action a place bytes st ≡ after_plain_token a place bytes st
token_same Read.Name place bytes h st = ap (λ text. Some (Value.Token (TokenValue.Name (record { place = place; name = text })) ∷ st)) (spelled bytes h)
token_same Read.Declared place bytes h st = ap (λ text. Some (Value.Token (TokenValue.Declared (record { place = place; name = text })) ∷ st)) (spelled bytes h)
token_same Read.Integer place bytes h st = ap (λ text. Some (Value.Expression (ExpressionValue.Expression (Expression.Integer place text)) ∷ st)) (spelled bytes h)
token_same Read.Place place bytes h st = refl
token_same Read.Character place bytes h st = refl
token_same Read.True place bytes h st = refl
token_same Read.False place bytes h st = refl
token_same Read.Static place bytes h st = refl
token_same (Read.Type integer) place bytes h st = refl
token_same (Read.Sign word) place bytes h st = refl
token_same (Read.Unary operator) place bytes h st = refl
token_same (Read.Binary operator) place bytes h st = refl
token_same (Read.Assignment operator) place bytes h st = refl
token_same (Read.Step operator) place bytes h st = refl

act_same : (a : Action) (end place : Place) (bytes : List ℕ) → IsAscii bytes → (st : Values) → after_action a end place bytes st ≡ after_plainly a end place bytes st
act_same (Action.Token a) end place bytes h st = token_same a place bytes h st
act_same (Action.Expression a) end place bytes h st = refl
act_same (Action.Declaration a) end place bytes h st = refl
act_same (Action.Statement a) end place bytes h st = refl
act_same (Action.File a) end place bytes h st = refl

module _ (text : List ℕ) (h : IsAscii text) (tokens : List CToken) where
  step_same : (s : Step) (st : Values) →
      after_action (action_of s.action) (end_of text) (place_at text (token_before tokens s.token).at) (spelling text (token_before tokens s.token)) st ≡ plain_step text tokens s st
  step_same s st =
      let t = token_before tokens s.token in
      act_same (action_of s.action) (end_of text) (place_at text t.at) (spelling text t) (part text t.len t.start h) st

  goes_on_same : (ss : List Step) → ((st : Values) → built text tokens ss st ≡ plainly_built text tokens ss st)
      → (o : Option Values) → option_and_then (built text tokens ss) o ≡ option_and_then (plainly_built text tokens ss) o
  goes_on_same ss same None = refl
  goes_on_same ss same (Some st) = same st

  built_same : (ss : List Step) (st : Values) → built text tokens ss st ≡ plainly_built text tokens ss st
  built_same [] st = refl
  built_same (s ∷ ss) st =
      ap (option_and_then (built text tokens ss)) (step_same s st) ∙ goes_on_same ss (λ st. built_same ss st) (plain_step text tokens s st)

-- what the actions of these productions leave
abbrev left_of : List ℕ → List CToken → Option (List ℕ) → Option Values
left_of text tokens None = None
left_of text tokens (Some ps) = plainly_built text tokens (steps_of MARKS (placed_in_order C ps 0 (C.start ∷ []))) []

abbrev left_by : List ℕ → List CToken → Option Values
left_by text tokens = left_of text tokens (productions TABLE 9999 (C.start ∷ []) (kinds_of tokens))

-- what the reading of a text leaves
abbrev reading : List ℕ → Option Values
reading text = at_c_text text (left_by text)

reading_is : (text : List ℕ) → reading text ≡ left_by text (c_tokens text)
reading_is text = at_c_text_is text (left_by text)

abbrev Leaves : Option Values → CTree → Type 0
Leaves left tree = left ≡ Some (Value.File (FileValue.Tree tree) ∷ [])

pub is_source : (text : List ℕ) (tree : CTree) → are_ascii text ≡ true → Leaves (reading text) tree → IsCSource text tree
is_source text tree plain h = on (productions TABLE 9999 (C.start ∷ []) (kinds_of (c_tokens text))) refl (sym (reading_is text) ∙ h)
  where
    on : (o : Option (List ℕ)) → productions TABLE 9999 (C.start ∷ []) (kinds_of (c_tokens text)) ≡ o → Leaves (left_of text (c_tokens text) o) tree → IsCSource text tree
    on None e h = let z : None ≡ Some (Value.File (FileValue.Tree tree) ∷ []) = h in cc
    on (Some ps) e h = record {
      productions = ps;
      parses = derives TABLE c_is_ll 9999 (C.start ∷ []) (kinds_of (c_tokens text)) ps e;
      builds =
          built_same text (ascii text plain) (c_tokens text) (actions_of ps) []
          ∙ ap (λ placed. plainly_built text (c_tokens text) (steps_of MARKS placed) []) (sym (placed_in_order_is C ps 0 (C.start ∷ [])))
          ∙ h;
    }
