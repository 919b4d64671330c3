-- One line of tokens after the other.
use Rattle.std.proofs.Common.{◌≡◌, ℕ, zero, suc, ◌+◌, ◌-◌, ◌<◌, ◌≤◌, List, [], ◌∷◌, ◌++◌, length, take, drop, refl, sym, ◌∙◌, ap, arith, append-nil, append_assoc, length-drop}
use Rattle.std.specs.List.{prefix_len}
use Rattle.std.proofs.lemmas.List.{drop-drop, drop_all, take_all, length-take-le}
use Rattle.std.proofs.lemmas.List.Sums.{prefix_len-le-length}
use Rattle.text_scan.specs.declared.scanner.Token.{Token}
use Rattle.c_tokens.specs.Directives.{Names, is_on_line_of, first_line, lines_within, lines_of, line_gives, lines_give}
use Rattle.c_tokens.specs.declared.directives.CToken.{CToken}

-- what a slice from token n on has
pub rest_of : (n : ℕ) (xs : List Token) → take (length xs - n) (drop n xs) ≡ drop n xs
rest_of n xs = take_all (length xs - n) (drop n xs) (let d = length-drop n xs in omega (arith, d))

module _ (text : List ℕ) where
  pub first_line-len : (tokens : List Token) → 0 < length tokens → (0 < length (first_line text tokens)) × (length (first_line text tokens) ≤ length tokens)
  first_line-len [] l = absurd (omega arith)
  first_line-len (t ∷ ts) l =
      let inside = prefix_len-le-length (is_on_line_of text t) ts in
      let size = length-take-le (prefix_len (is_on_line_of text t) ts) ts inside in
      (omega arith, omega (arith, inside, size))

  pub first_line-take : (tokens : List Token) → take (length (first_line text tokens)) tokens ≡ first_line text tokens
  first_line-take [] = refl
  first_line-take (t ∷ ts) = ap (λ n. t ∷ take n ts) (length-take-le (prefix_len (is_on_line_of text t) ts) ts (prefix_len-le-length (is_on_line_of text t) ts))

  -- the slice that has the first line
  pub line_of : (tokens : List Token) (at len : ℕ) → len ≡ length (first_line text (drop at tokens)) → take (at + len - at) (drop at tokens) ≡ first_line text (drop at tokens)
  line_of tokens at len e =
      ap (λ n. take n (drop at tokens)) (let same : at + len - at ≡ length (first_line text (drop at tokens)) = omega (arith, e) in same) ∙ first_line-take (drop at tokens)

  no_line : (n : ℕ) → lines_within text n [] ≡ []
  no_line zero = refl
  no_line (suc n) = refl

  next_line : (n : ℕ) (tokens : List Token) → 0 < length tokens → lines_within text (suc n) tokens ≡ first_line text tokens ∷ lines_within text n (drop (length (first_line text tokens)) tokens)
  next_line n [] l = absurd (omega arith)
  next_line n (t ∷ ts) l = refl

  -- the tokens read so far, and those of the lines from token `at` on, where these names are defined
  pub record Lines (all : List CToken) (tokens : List Token) (read : List CToken) (names : Names) (at : ℕ) : Type 0 where
    pub lines : ℕ
    pub enough : length tokens ≤ lines + at
    pub whole : read ++ lines_give text names (lines_within text lines (drop at tokens)) ≡ all

  pub lines-start : (tokens : List Token) (read : List CToken) (first names : Names) → read ≡ [] → names ≡ first → Lines (lines_give text first (lines_of text tokens)) tokens read names 0
  lines-start tokens read first names e are = record {
    lines = length tokens;
    enough = omega arith;
    whole = ap (λ x. x ++ lines_give text names (lines_of text tokens)) e ∙ ap (λ x. lines_give text x (lines_of text tokens)) are;
  }

  pub lines-end : (all : List CToken) (tokens : List Token) (read : List CToken) (names : Names) (at : ℕ) → length tokens ≤ at → Lines all tokens read names at → read ≡ all
  lines-end all tokens read names at l h =
      sym (append-nil read) ∙ ap (λ x. read ++ lines_give text names x) (sym (ap (lines_within text h.lines) (drop_all at tokens l) ∙ no_line h.lines)) ∙ h.whole

  pub lines-step : (all : List CToken) (tokens : List Token) (read read' : List CToken) (names names' : Names) (at len : ℕ) (line : List Token) → at < length tokens → Lines all tokens read names at →
      len ≡ length (first_line text (drop at tokens)) → line ≡ first_line text (drop at tokens) → read' ≡ read ++ (line_gives text names line).0 → names' ≡ (line_gives text names line).1 →
      Lines all tokens read' names' (at + len)
  lines-step all tokens read read' names names' at len line l h e is gained defined = by h.lines h.enough h.whole
    where
      some : 0 < length (drop at tokens)
      some = (let d = length-drop at tokens in omega (arith, d))

      by : (n : ℕ) → length tokens ≤ n + at → read ++ lines_give text names (lines_within text n (drop at tokens)) ≡ all → Lines all tokens read' names' (at + len)
      by zero enough whole = absurd (omega arith)
      by (suc n) enough whole =
          let rest = lines_within text n (drop len (drop at tokens)) in
          let more = first_line-len (drop at tokens) some in
          record {
            lines = n;
            enough = (let w = more.0 in omega (arith, w, e));
            whole =
                ap (λ x. read' ++ lines_give text names' (lines_within text n x)) (sym (drop-drop len at tokens))
                ∙ ap (λ x. x ++ lines_give text names' rest) gained
                ∙ ap (λ x. (read ++ (line_gives text names line).0) ++ lines_give text x rest) defined
                ∙ append_assoc read (line_gives text names line).0 (lines_give text (line_gives text names line).1 rest)
                ∙ ap (λ x. read ++ lines_give text names (x ∷ rest)) is
                ∙ ap (λ k. read ++ lines_give text names (first_line text (drop at tokens) ∷ lines_within text n (drop k (drop at tokens)))) e
                ∙ ap (λ x. read ++ lines_give text names x) (sym (next_line n (drop at tokens) some))
                ∙ whole;
          }
