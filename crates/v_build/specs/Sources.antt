-- What the loop over the steps reads.
use Rattle.std.specs.Prelude.{ℕ, ◌<◌, List, length}
use Rattle.text_scan.specs.declared.scanner.Token.{Token}
use Rattle.v_actions.specs.Reading.{places_of}
use Rattle.v_actions.specs.Tokens.{Lexemes}
use Rattle.v_build.specs.declared.steps.Source.{Source}

-- the token begins within the text
abbrev pub IsInside : (text : List ℕ) → Token → Type 0
IsInside text token = token.start < length text

-- what the loop reads, as the text, the tokens and their places
abbrev pub lexemes_of : Source → Lexemes
lexemes_of source = record { text = source.text.now; tokens = source.tokens.now; places = source.places.now }

-- a text that is read as these tokens
abbrev pub read_as : List ℕ → List Token → Lexemes
read_as text tokens = record { text = text; tokens = tokens; places = places_of text tokens }
