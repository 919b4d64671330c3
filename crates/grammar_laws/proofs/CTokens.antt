-- The tokens of a C text, by computing in order.
use Rattle.std.proofs.Common.{◌≡◌, ℕ, true, List, [], ◌∷◌, None, length, refl, ap, ◌∙◌}
use Rattle.text_scan.specs.declared.scanner.Token.{Token}
use Rattle.c_tokens.specs.Directives.{c_tokens, lines_give, lines_of}
use Rattle.c_tokens.specs.Rules.{kind_of, is_blank_line}
use Rattle.c_tokens.specs.declared.directives.CToken.{CToken}
use Rattle.grammar_laws.proofs.InOrder.{at_number, at_number_is, at_tokens, at_tokens_is, tokens_in_order, tokens_in_order_is}

-- tokens as values
module _ {A : Type 0} where
  abbrev put_token : (CToken → A) → ℕ → ℕ → ℕ → ℕ → A
  put_token go kind place start len = go (record { kind = kind; at = place; start = start; len = len })

  abbrev at_start : (CToken → A) → CToken → ℕ → ℕ → A
  at_start go t kind place = at_number t.start (λ start. at_number t.len (put_token go kind place start))

  abbrev pub at_c_token : CToken → (CToken → A) → A
  at_c_token t go = at_number t.kind (λ kind. at_number t.at (at_start go t kind))

  pub at_c_token_is : (t : CToken) (go : CToken → A) → at_c_token t go ≡ go t
  at_c_token_is t go =
      at_number_is t.kind (λ kind. at_number t.at (at_start go t kind))
      ∙ at_number_is t.at (at_start go t t.kind)
      ∙ at_number_is t.start (λ start. at_number t.len (put_token go t.kind t.at start))
      ∙ at_number_is t.len (put_token go t.kind t.at t.start)

  abbrev pub at_c_tokens : List CToken → (List CToken → A) → A
  at_c_tokens [] go = go []
  at_c_tokens (t ∷ ts) go = at_c_token t (λ u. at_c_tokens ts (λ us. go (u ∷ us)))

  pub at_c_tokens_is : (ts : List CToken) (go : List CToken → A) → at_c_tokens ts go ≡ go ts
  at_c_tokens_is [] go = refl
  at_c_tokens_is (t ∷ ts) go = at_c_token_is t (λ u. at_c_tokens ts (λ us. go (u ∷ us))) ∙ at_c_tokens_is ts (λ us. go (t ∷ us))

abbrev tokens_by : List ℕ → List Token → List CToken
tokens_by text tokens = lines_give text (λ _. None) (lines_of text tokens)

module _ {A : Type 0} (text : List ℕ) (go : List CToken → A) where
  abbrev at_lines : List Token → A
  at_lines tokens = at_c_tokens (tokens_by text tokens) go

  -- what goes on with the tokens of a text
  abbrev pub at_c_text : A
  at_c_text = at_tokens (tokens_in_order kind_of is_blank_line (length text) true 0 text) at_lines

  pub at_c_text_is : at_c_text ≡ go (c_tokens text)
  at_c_text_is =
      let tokens = tokens_in_order kind_of is_blank_line (length text) true 0 text in
      at_tokens_is tokens at_lines
      ∙ at_c_tokens_is (tokens_by text tokens) go
      ∙ ap (λ ts. go (tokens_by text ts)) (tokens_in_order_is kind_of is_blank_line (length text) true 0 text)
