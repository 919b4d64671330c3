-- What lines give lies within the text, and is at most four tokens for each token.
use Rattle.std.proofs.Common.{◌≡◌, ℕ, zero, suc, ◌+◌, ◌*◌, ◌<◌, ◌≤◌, ◌&&◌, Bool, true, false, cond, List, [], ◌∷◌, ◌++◌, length, drop, map, Option, None, Some, unwrap_or, is_none, codes, refl, ap, subst, arith, length-append, length-drop}
use Rattle.std.specs.Prelude.{All}
use Rattle.std.specs.List.{flat_map}
use Rattle.std.specs.Map.{update}
use Rattle.std.specs.Str.{bytes_eq}
use Rattle.std.proofs.lemmas.List.{length-map}
use Rattle.std.proofs.lemmas.List.Elements.{All-cons, All-append, All-map, All-take, All-drop}
use Rattle.text_scan.specs.Tokens.{tokens_of}
use Rattle.text_scan.specs.declared.scanner.Token.{Token}
use Rattle.c_tokens.specs.declared.directives.CToken.{CToken}
use Rattle.c_tokens.specs.declared.kinds.TokenKind.TheVariants.{Identifier, Hash}
use Rattle.c_tokens.specs.Directives.{Names, spelling, is_kind, is_constant, is_include, after_define, after_directive, token_at, refused, expansion, carried_out, line_gives, lines_give, first_line, lines_within, c_tokens}
use Rattle.c_tokens.specs.Rules.{kind_of, is_blank_line}
use Rattle.c_tokens.specs.Reading.{IsTokenOf}
use Rattle.c_tokens.proofs.PartLemmas.{IsSpan, tokens_of-spans, tokens_of-few}
use Rattle.c_tokens.proofs.LineLemmas.{first_line-len, first_line-take}

constant-few : (ts : List Token) → is_constant ts ≡ true → length ts ≤ 4
constant-few [] e = omega arith
constant-few (a ∷ []) e = omega arith
constant-few (a ∷ b ∷ []) e = omega arith
constant-few (a ∷ b ∷ c ∷ []) e = omega arith
constant-few (a ∷ b ∷ c ∷ d ∷ []) e = omega arith
constant-few (a ∷ b ∷ c ∷ d ∷ f ∷ ts) e = absurd (cc)

module _ (text : List ℕ) where
  -- constants of at most four tokens of the text
  abbrev pub AreSound : Names → Type 0
  AreSound names = (name : List ℕ) (ts : List Token) → names name ≡ Some ts → All (IsSpan text) ts × (length ts ≤ 4)

  -- tokens of the text, at most so many
  record AreFew (most : ℕ) (ts : List CToken) : Type 0 where
    tokens : All (IsTokenOf text) ts
    few : length ts ≤ most

  few-append : (m n : ℕ) (xs ys : List CToken) → AreFew m xs → AreFew n ys → AreFew (m + n) (xs ++ ys)
  few-append m n xs ys g h = record {
    tokens = All-append (IsTokenOf text) xs ys g.tokens h.tokens;
    few = (let a = g.few in let b = h.few in let d = length-append xs ys in omega (arith, a, b, d));
  }

  few-less : (m n : ℕ) (xs : List CToken) → m ≤ n → AreFew m xs → AreFew n xs
  few-less m n xs l g = record { tokens = g.tokens; few = (let a = g.few in omega (arith, a, l)) }

  few-placed : (at : ℕ) → at < length text → (ts : List Token) → All (IsSpan text) ts → length ts ≤ 4 → AreFew 4 (map (token_at at) ts)
  few-placed at l ts spans few = record {
    tokens = All-map (IsTokenOf text) (token_at at) ts (λ k d i. let h = spans k d i in record { reported = l; inside = h.inside; spelled = h.spelled });
    few = (let d = length-map ts (token_at at) in omega (arith, d, few));
  }

  started : (t : Token) → IsSpan text t → t.start < length text
  started t h = (let a = h.some in let b = h.inside in omega (arith, a, b))

  single : (t : Token) → IsSpan text t → All (IsSpan text) (t ∷ [])
  single t h = All-cons (IsSpan text) t [] h (λ k d i. absurd (omega arith))

  few-expansion : (names : Names) → AreSound names → (t : Token) → IsSpan text t → AreFew 4 (expansion text names t)
  few-expansion names sound t h = by (is_kind Identifier t) (names (spelling text t)) refl
    where
      by : (b : Bool) (r : Option (List Token)) → names (spelling text t) ≡ r → AreFew 4 (map (token_at t.start) (unwrap_or (cond b r None) (t ∷ [])))
      by false r e = few-placed t.start (started t h) (t ∷ []) (single t h) (omega arith)
      by true None e = few-placed t.start (started t h) (t ∷ []) (single t h) (omega arith)
      by true (Some ts) e = (let s = sound (spelling text t) ts e in few-placed t.start (started t h) ts s.0 s.1)

  few-line : (names : Names) → AreSound names → (line : List Token) → All (IsSpan text) line → AreFew (4 * length line) (flat_map (expansion text names) line)
  few-line names sound [] spans = record { tokens = λ k d i. absurd (omega arith); few = omega arith }
  few-line names sound (t ∷ ts) spans =
      few-less (4 + 4 * length ts) (4 * length (t ∷ ts)) (flat_map (expansion text names) (t ∷ ts)) (omega arith)
      (few-append 4 (4 * length ts) (expansion text names t) (flat_map (expansion text names) ts) (few-expansion names sound t (spans 0 t (omega arith)))
      (few-line names sound ts (All-drop (IsSpan text) 1 (t ∷ ts) spans)))

  sound-update : (names : Names) → AreSound names → (name : List ℕ) (ts : List Token) → All (IsSpan text) ts → length ts ≤ 4 → AreSound (update bytes_eq names name (Some ts))
  sound-update names sound name ts spans few = λ q us e. by (bytes_eq name q) q us e
    where
      by : (b : Bool) (q : List ℕ) (us : List Token) → cond b (Some ts) (names q) ≡ Some us → All (IsSpan text) us × (length us ≤ 4)
      by false q us e = sound q us e
      by true q us e = let P : List Token → Type 0 = λ x. All (IsSpan text) x × (length x ≤ 4) in subst P (ap (λ (r : Option (List Token)). unwrap_or r []) e) (spans, few)

  and_third : (a b c d : Bool) → (a && b && c && d) ≡ true → c ≡ true
  and_third true true true true e = refl
  and_third false b c d e = absurd (cc)
  and_third true false c d e = absurd (cc)
  and_third true true false d e = absurd (cc)
  and_third true true true false e = refl

  chosen : (t : Bool) (new after : Names) → cond t (Some new) None ≡ Some after → (t ≡ true) × (new ≡ after)
  chosen true new after e = (refl, ap (λ (r : Option Names). unwrap_or r new) e)
  chosen false new after e = absurd (cc)

  sound-define : (names after : Names) → AreSound names → (line : List Token) → All (IsSpan text) line → after_define text names line ≡ Some after → AreSound after
  sound-define names after sound [] spans e = absurd (cc)
  sound-define names after sound (a ∷ []) spans e = absurd (cc)
  sound-define names after sound (a ∷ b ∷ []) spans e = absurd (cc)
  sound-define names after sound (a ∷ b ∷ c ∷ ts) spans e =
      let h = chosen _ (update bytes_eq names (spelling text c) (Some ts)) after e in
      subst AreSound h.1 (sound-update names sound (spelling text c) ts (All-drop (IsSpan text) 3 (a ∷ b ∷ c ∷ ts) spans) (constant-few ts (and_third (bytes_eq (spelling text b) (codes "define")) (is_kind Identifier c) (is_constant ts) (is_none (names (spelling text c))) h.0)))

  sound-directive : (names after : Names) → AreSound names → (line : List Token) → All (IsSpan text) line → after_directive text names line ≡ Some after → AreSound after
  sound-directive names after sound line spans e = by (is_include text line) e
    where
      by : (t : Bool) → cond t (Some names) (after_define text names line) ≡ Some after → AreSound after
      by true e = subst AreSound (ap (λ (r : Option Names). unwrap_or r names) e) sound
      by false e = sound-define names after sound line spans e

  record IsKept (line : List Token) (given : List CToken × Names) : Type 0 where
    few : AreFew (4 * length line) given.0
    sound : AreSound given.1

  none : (n : ℕ) → AreFew n []
  none n = record { tokens = λ k d i. absurd (omega arith); few = omega arith }

  line-kept : (names : Names) → AreSound names → (line : List Token) → All (IsSpan text) line → IsKept line (line_gives text names line)
  line-kept names sound [] spans = record { few = none 0; sound = sound }
  line-kept names sound (t ∷ ts) spans = by (is_kind Hash t) (after_directive text names (t ∷ ts)) refl
    where
      head : IsSpan text t
      head = spans 0 t (omega arith)

      by : (b : Bool) (r : Option Names) → after_directive text names (t ∷ ts) ≡ r → IsKept (t ∷ ts) (cond b (carried_out names t r) (flat_map (expansion text names) (t ∷ ts), names))
      by false r e = record { few = few-line names sound (t ∷ ts) spans; sound = sound }
      by true (Some after) e = record { few = none (4 * length (t ∷ ts)); sound = sound-directive names after sound (t ∷ ts) spans e }
      by true None e = record {
        few = record {
          tokens = All-cons (IsTokenOf text) (refused t) [] (record { reported = started t head; inside = head.inside; spelled = λ l. absurd (omega arith) }) (λ k d i. absurd (omega arith));
          few = omega arith;
        };
        sound = sound;
      }

  lines-few : (n : ℕ) (names : Names) (tokens : List Token) → AreSound names → All (IsSpan text) tokens → AreFew (4 * length tokens) (lines_give text names (lines_within text n tokens))
  lines-few zero names tokens sound spans = none (4 * length tokens)
  lines-few (suc n) names [] sound spans = none 0
  lines-few (suc n) names (t ∷ ts) sound spans =
      let tokens = t ∷ ts in
      let line = first_line text tokens in
      let rest = drop (length line) tokens in
      let size = first_line-len text tokens (omega arith) in
      let kept = line-kept names sound line (subst (All (IsSpan text)) (first_line-take text tokens) (All-take (IsSpan text) (length line) tokens spans)) in
      few-less (4 * length line + 4 * length rest) (4 * length tokens) _ (let w = size.1 in let d = length-drop (length line) tokens in omega (arith, w, d))
      (few-append (4 * length line) (4 * length rest) (line_gives text names line).0 (lines_give text (line_gives text names line).1 (lines_within text n rest)) kept.few
      (lines-few n (line_gives text names line).1 rest kept.sound (All-drop (IsSpan text) (length line) tokens spans)))

pub c_tokens-are : (text : List ℕ) → All (IsTokenOf text) (c_tokens text)
c_tokens-are text =
    let tokens = tokens_of kind_of is_blank_line text in
    (lines-few text (length tokens) (λ _. None) tokens (λ name ts e. absurd (cc)) (tokens_of-spans text)).tokens

pub c_tokens-few : (text : List ℕ) → length (c_tokens text) ≤ 4 * length text
c_tokens-few text =
    let tokens = tokens_of kind_of is_blank_line text in
    let all = (lines-few text (length tokens) (λ _. None) tokens (λ name ts e. absurd (cc)) (tokens_of-spans text)).few in
    let few = tokens_of-few text in
    omega (arith, all, few)
