-- The longest character constant and string, from the closing quote outwards.
use Rattle.std.proofs.Common.{◌≡◌, ℕ, ◌+◌, ◌==◌, ◌&&◌, Bool, true, false, cond, List, ◌∷◌, drop, Option, None, refl, ap}
use Rattle.std.specs.Option.{option_map}
use Rattle.std.proofs.lemmas.Bool.{eq-eqb}
use Rattle.text_scan.specs.Words.{run_len}
use Rattle.text_scan.specs.Fronts.{IsLongestFront}
use Rattle.c_tokens.specs.Rules.{is_only, is_escape, is_after_backslash, is_plain, is_after_quote, is_text, is_after_double_quote}
use Rattle.c_tokens.proofs.FrontLemmas.{begun-stops, begun-goes_on, after_run}

module _ (b : ℕ) (bs bytes : List ℕ) (are : bytes ≡ b ∷ bs) where
  pub backslash-stops : is_escape b ≡ false → IsLongestFront is_after_backslash bytes None
  backslash-stops e = begun-stops is_after_backslash b bs bytes are (is_only 39) (is_escape b) refl (λ xs. refl) e

  pub backslash-goes_on : is_escape b ≡ true → (r : Option ℕ) → IsLongestFront (is_only 39) bs r → IsLongestFront is_after_backslash bytes (option_map (λ n. n + 1) r)
  backslash-goes_on e r h = begun-goes_on is_after_backslash b bs bytes are (is_only 39) (is_escape b) refl (λ xs. refl) e r h

  quote_on : (t : Bool) → (b == 92) ≡ t → (xs : List ℕ) → is_after_quote (b ∷ xs) ≡ cond t (is_after_backslash xs) (is_plain b && is_only 39 xs)
  quote_on t e xs = ap (λ u. cond u (is_after_backslash xs) (is_plain b && is_only 39 xs)) e

  pub quote-escape : b ≡ 92 → (r : Option ℕ) → IsLongestFront is_after_backslash bs r → IsLongestFront is_after_quote bytes (option_map (λ n. n + 1) r)
  quote-escape e r h = begun-goes_on is_after_quote b bs bytes are is_after_backslash true refl (quote_on true (eq-eqb b 92 e)) refl r h

  pub quote-plain : (b == 92) ≡ false → is_plain b ≡ true → (r : Option ℕ) → IsLongestFront (is_only 39) bs r → IsLongestFront is_after_quote bytes (option_map (λ n. n + 1) r)
  quote-plain e p r h = begun-goes_on is_after_quote b bs bytes are (is_only 39) (is_plain b) refl (quote_on false e) p r h

  pub quote-stops : (b == 92) ≡ false → is_plain b ≡ false → IsLongestFront is_after_quote bytes None
  quote-stops e p = begun-stops is_after_quote b bs bytes are (is_only 39) (is_plain b) refl (quote_on false e) p

pub double_quote-run : (bytes : List ℕ) (run : ℕ) (r : Option ℕ) → run ≡ run_len is_text bytes → IsLongestFront (is_only 34) (drop run bytes) r → IsLongestFront is_after_double_quote bytes (option_map (λ n. n + run) r)
double_quote-run bytes run r e h = after_run is_text is_after_double_quote (is_only 34) refl (λ b xs. refl) bytes run r e h
