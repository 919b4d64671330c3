-- Tokens that are given as a table of their texts, and tokens that go on while bytes pass a test.
use Rattle.std.specs.Prelude.{ℕ, ◌&&◌, Bool, true, nat_le, nat_lt, if◌then◌else◌, List, [], ◌∷◌, length, map, Option, None, Some, nat_eq}
use Rattle.std.specs.List.{starts_with, take_while}
use Rattle.std.specs.Str.{bytes_eq}
use Rattle.text_scan.specs.declared.words.Word.{Word}

-- the texts of the words, each with its kind
abbrev pub words_of : List Word → List (List ℕ × ℕ)
words_of words = map (λ (w : Word). (w.text.now, w.kind)) words

-- the kind of the first word that the bytes are, as a whole
abbrev pub kind_in : List (List ℕ × ℕ) → List ℕ → Option ℕ
kind_in [] bytes = None
kind_in (w ∷ ws) bytes = if bytes_eq bytes w.0 then Some w.1 else kind_in ws bytes

-- each word has a byte at least and no more than `most`, and no more than the one before
abbrev pub is_longest_first : ℕ → List (List ℕ × ℕ) → Bool
is_longest_first most [] = true
is_longest_first most (w ∷ ws) = nat_lt 0 (length w.0) && nat_le (length w.0) most && is_longest_first (length w.0) ws

-- the first word that the bytes begin with, as its kind and length
abbrev pub first_in : List (List ℕ × ℕ) → List ℕ → Option (ℕ × ℕ)
first_in [] bytes = None
first_in (w ∷ ws) bytes = if starts_with nat_eq bytes w.0 then Some (w.1, length w.0) else first_in ws bytes

-- how many bytes from the front on pass the test
abbrev pub run_len : (ℕ → Bool) → List ℕ → ℕ
run_len test bytes = length (take_while test bytes)
