-- The places of the tokens of a text.
use Rattle.std.proofs.Common.{◌≡◌, ℕ, ◌≤◌, List, [], ◌∷◌, length, map, refl, ap, arith}
use Rattle.std.proofs.lemmas.List.Elements.{All-get_or, All-from_get_or, All-map}
use Rattle.std.specs.List.{All}
use Rattle.src_text.specs.declared.refusal.Place.{Place}
use Rattle.src_text.specs.Place.{place_at}
use Rattle.text_scan.specs.declared.scanner.Token.{Token}
use Rattle.v_actions.specs.Tokens.{Lexemes}
use Rattle.v_build.specs.Sources.{IsInside}

abbrev NO_TOKEN : Token
NO_TOKEN = record { kind = 0; start = 0; len = 0 }

-- the tokens begin within the text
pub starts_within : (text : List ℕ) (tokens : List Token) → All (IsInside text) tokens → All (λ start. start ≤ length text) (map (λ (t : Token). t.start) tokens)
starts_within text tokens h =
    All-map (λ start. start ≤ length text) (λ (t : Token). t.start) tokens
    (All-from_get_or (λ (t : Token). t.start ≤ length text) tokens NO_TOKEN (λ i l. let r = All-get_or (IsInside text) tokens i NO_TOKEN l h in omega arith))

-- the places of the starts
pub places_of_starts : (text : List ℕ) (tokens : List Token) → map (place_at text) (map (λ (t : Token). t.start) tokens) ≡ map (λ (t : Token). place_at text t.start) tokens
places_of_starts text [] = refl
places_of_starts text (t ∷ ts) = ap (λ x. place_at text t.start ∷ x) (places_of_starts text ts)

abbrev pub with_places : List ℕ → List Token → List Place → Lexemes
with_places text tokens places = record { text = text; tokens = tokens; places = places }
