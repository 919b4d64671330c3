-- Each token of a text has a byte at least, lies within the text, and is spelled by bytes of its kind.
use Rattle.std.proofs.Common.{◌≡◌, ℕ, zero, suc, ◌+◌, ◌-◌, ◌<◌, ◌≤◌, ◌==◌, ◌&&◌, Bool, true, false, cond, List, [], ◌∷◌, length, take, drop, get_or, min, unwrap_or, Option, None, Some, refl, sym, ◌∙◌, ap, arith, length-drop}
use Rattle.std.specs.Prelude.{All}
use Rattle.std.specs.List.{zip}
use Rattle.std.proofs.lemmas.List.{drop-drop}
use Rattle.std.proofs.lemmas.List.Elements.{All-cons}
use Rattle.std.proofs.lemmas.List.Quantifiers.{position-Some}
use Rattle.std.proofs.lemmas.Slice.Zip.{length-zip}
use Rattle.text_scan.specs.Pieces.{is_blank, begins, line_len, close_of, or_shorter, longest_within, longest_of, skipped, token, comment, token_or_stray, piece_of}
use Rattle.text_scan.specs.Tokens.{with_piece, fresh_after, tokens_within, tokens_of}
use Rattle.text_scan.specs.declared.pieces.Piece.{Piece}
use Rattle.text_scan.specs.declared.pieces.TheConstants.{STRAY}
use Rattle.text_scan.specs.declared.scanner.Token.{Token}
use Rattle.text_scan.proofs.PieceLemmas.{line_len-within, line_len-some, longest_of-len}
use Rattle.v_tokens.specs.Rules.{kind_of, is_blank_line}
use Rattle.v_build.specs.Sources.{IsInside}

-- A byte at least, within the text, and a token of its kind.
pub record IsSpan (text : List ℕ) (t : Token) : Type 0 where
  pub some : 0 < t.len
  pub inside : t.start + t.len ≤ length text
  pub spelled : t.kind < STRAY → kind_of (take t.len (drop t.start text)) ≡ Some t.kind

abbrev found_len : Option (ℕ × ℕ) → ℕ
found_len None = 0
found_len (Some found) = found.1

abbrev found_kind : Option (ℕ × ℕ) → Option ℕ
found_kind None = None
found_kind (Some found) = Some found.0

-- the longest token is one
longest-is : (n : ℕ) (bytes : List ℕ) (kind len : ℕ) → longest_within kind_of n bytes ≡ Some (kind, len) → kind_of (take len bytes) ≡ Some kind
longest-is zero bytes kind len e = absurd (cc)
longest-is (suc n) bytes kind len e = by (kind_of (take (suc n) bytes)) refl (longest-is n bytes kind len) e
  where
    by : (k : Option ℕ) → kind_of (take (suc n) bytes) ≡ k → (longest_within kind_of n bytes ≡ Some (kind, len) → kind_of (take len bytes) ≡ Some kind) →
        or_shorter k (suc n) (longest_within kind_of n bytes) ≡ Some (kind, len) → kind_of (take len bytes) ≡ Some kind
    by (Some k) is ih e = ap (λ x. kind_of (take x bytes)) (sym (ap found_len e)) ∙ is ∙ ap found_kind e
    by None is ih e = ih e

-- what the first part of a text keeps to
pub record IsPart (bytes : List ℕ) (p : Piece) : Type 0 where
  pub some : 0 < p.len
  pub inside : p.len ≤ length bytes
  pub spelled : (kind : ℕ) → p.kind ≡ Some kind → kind < STRAY → kind_of (take p.len bytes) ≡ Some kind

module _ (bytes : List ℕ) where
  pick : (t : Bool) (p q : Piece) → (t ≡ true → IsPart bytes p) → (t ≡ false → IsPart bytes q) → IsPart bytes (cond t p q)
  pick true p q left right = left refl
  pick false p q left right = right refl

  skipped-part : (n : ℕ) → 0 < n → n ≤ length bytes → IsPart bytes (skipped n)
  skipped-part n some inside = record { some = some; inside = inside; spelled = λ kind e l. absurd (cc) }

  stray-part : (n : ℕ) → 0 < n → n ≤ length bytes → IsPart bytes (token STRAY n)
  stray-part n some inside = record { some = some; inside = inside; spelled = λ kind e l. absurd (let same : STRAY ≡ kind = ap (λ k. unwrap_or k 0) e in omega (arith, same, l)) }

  comment-part : 0 < length bytes → (r : Option ℕ) → close_of (drop 2 bytes) ≡ r → IsPart bytes (comment r (length bytes))
  comment-part some None e = stray-part (length bytes) some (omega arith)
  comment-part some (Some close) e =
      let rest = drop 2 bytes in
      let found = position-Some {X = ℕ × ℕ} (λ pair. pair.0 == 42 && pair.1 == 47) (zip rest (drop 1 rest)) close (0, 0) e in
      let inside : close < length (zip rest (drop 1 rest)) = found.0 in
      let size : length (zip rest (drop 1 rest)) ≡ min (length rest) (length (drop 1 rest)) = length-zip rest (drop 1 rest) in
      let less : length (drop 1 rest) ≡ length rest - 1 = length-drop 1 rest in
      let two : length rest ≡ length bytes - 2 = length-drop 2 bytes in
      skipped-part (close + 4) (omega arith) (omega arith)

  token-part : 0 < length bytes → (r : Option (ℕ × ℕ)) → longest_of kind_of bytes ≡ r → IsPart bytes (token_or_stray r)
  token-part some None e = stray-part 1 (omega arith) (omega arith)
  token-part some (Some found) e =
      let size = longest_of-len kind_of bytes found.0 found.1 e in
      record {
        some = size.0;
        inside = size.1;
        spelled = λ kind same l. longest-is (length bytes) bytes found.0 found.1 e ∙ same;
      }

  pub piece-part : (fresh : Bool) → 0 < length bytes → IsPart bytes (piece_of kind_of is_blank_line fresh bytes)
  piece-part fresh some =
      pick (is_blank (get_or bytes 0 0)) _ _ (λ e. skipped-part 1 (omega arith) (omega arith)) (λ none.
      let line : IsPart bytes (skipped (line_len bytes)) = skipped-part (line_len bytes) (line_len-some bytes some none) (line_len-within bytes) in
      pick (begins bytes (47 ∷ 47 ∷ [])) _ _ (λ e. line) (λ e.
      pick (begins bytes (47 ∷ 42 ∷ [])) _ _ (λ e. comment-part some (close_of (drop 2 bytes)) refl) (λ e.
      pick (fresh && is_blank_line bytes) _ _ (λ e. line) (λ e. token-part some (longest_of kind_of bytes) refl))))

abbrev tokens_in : ℕ → Bool → ℕ → List ℕ → List Token
tokens_in n fresh at bytes = tokens_within kind_of is_blank_line n fresh at bytes

tokens-spans : (text : List ℕ) (n : ℕ) (fresh : Bool) (at : ℕ) (bytes : List ℕ) → bytes ≡ drop at text → All (IsSpan text) (tokens_in n fresh at bytes)
tokens-spans text zero fresh at bytes are = λ k d i. absurd (omega arith)
tokens-spans text (suc n) fresh at [] are = λ k d i. absurd (omega arith)
tokens-spans text (suc n) fresh at (b ∷ bs) are =
    let p = piece_of kind_of is_blank_line fresh (b ∷ bs) in
    by p (piece-part (b ∷ bs) fresh (omega arith)) p.kind refl _
    (tokens-spans text n (fresh_after p.kind p.len fresh (b ∷ bs)) (at + p.len) (drop p.len (b ∷ bs)) (ap (drop p.len) are ∙ drop-drop p.len at text))
  where
    by : (p : Piece) → IsPart (b ∷ bs) p → (kind : Option ℕ) → p.kind ≡ kind → (rest : List Token) → All (IsSpan text) rest → All (IsSpan text) (with_piece kind p.len at rest)
    by p h None is rest spans = spans
    by p h (Some kind) is rest spans =
        let size : length (b ∷ bs) ≡ length text - at = ap length are ∙ length-drop at text in
        let some = h.some in
        let inside = h.inside in
        All-cons (IsSpan text) (record { kind = kind; start = at; len = p.len }) rest (record {
          some = h.some;
          inside = omega (arith, size, some, inside);
          spelled = λ l. ap (λ x. kind_of (take p.len x)) (sym are) ∙ h.spelled kind is l;
        }) spans

tokens-few : (n : ℕ) (fresh : Bool) (at : ℕ) (bytes : List ℕ) → length (tokens_in n fresh at bytes) ≤ length bytes
tokens-few zero fresh at bytes = omega arith
tokens-few (suc n) fresh at [] = omega arith
tokens-few (suc n) fresh at (b ∷ bs) =
    let p = piece_of kind_of is_blank_line fresh (b ∷ bs) in
    by p.kind p.len (piece-part (b ∷ bs) fresh (omega arith)).some (piece-part (b ∷ bs) fresh (omega arith)).inside _ (tokens-few n (fresh_after p.kind p.len fresh (b ∷ bs)) (at + p.len) (drop p.len (b ∷ bs)))
  where
    by : (kind : Option ℕ) (len : ℕ) → 0 < len → len ≤ length (b ∷ bs) → (rest : List Token) → length rest ≤ length (drop len (b ∷ bs)) → length (with_piece kind len at rest) ≤ length (b ∷ bs)
    by None len some inside rest h = (let d = length-drop len (b ∷ bs) in omega (arith, d, h))
    by (Some kind) len some inside rest h = (let d = length-drop len (b ∷ bs) in omega (arith, d, h))

-- the tokens of a whole text
pub tokens_of-spans : (text : List ℕ) → All (IsSpan text) (tokens_of kind_of is_blank_line text)
tokens_of-spans text = tokens-spans text (length text) true 0 text refl

pub tokens_of-inside : (text : List ℕ) → All (IsInside text) (tokens_of kind_of is_blank_line text)
tokens_of-inside text = λ k d i. (let h = tokens_of-spans text k d i in let some = h.some in let inside = h.inside in omega arith)

pub tokens_of-few : (text : List ℕ) → length (tokens_of kind_of is_blank_line text) ≤ length text
tokens_of-few text = tokens-few (length text) true 0 text
