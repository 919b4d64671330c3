-- Rows of matches, as they grow where no id comes twice.
use Rattle.std.proofs.Common.{◌≡◌, ◌∙◌, ◌++◌, refl, ap, Bool, true, false, List, [], ◌∷◌, Some, None, if◌then◌else◌, ◌&&◌, codes}
use Rattle.std.proofs.lemmas.Bool.{or_parts}
use Rattle.std.proofs.lemmas.List.{append-nil}
use Rattle.clap.specs.Words.{Row, Text}
use Rattle.clap.specs.Walk.{at_row, has_row, with_values, without, used, more_values}
use Rattle.clap.specs.Kinds.{Kinds, or_else}
use Rattle.clap.specs.Faults.{use_fault}
use Rattle.clap.specs.declared.builder.value_parser.Reading.TheVariants.{AsWritten}
use Rattle.clap.specs.declared.error.kind.ErrorKind.TheVariants as kind
use Rattle.clap.specs.declared.parser.matches.ValueSource.TheVariants.{CommandLine}
use Rattle.command_words.specs.Words.{Named, name_of, check_name}
use Rattle.command_words.proofs.Rules.{option_rule, flag_rule, c_rule, v_rule}

-- an id that was used once, with its value
abbrev pub row : (id value : Text) → Row
row id value = record {
  id = id;
  values = value ∷ [];
  count = None;
  source = Some CommandLine;
  reading = AsWritten;
}

pub at_row-none : (id : Text) (change : Row → List Row) (missing rs : List Row) → has_row id rs ≡ false → at_row id change missing rs ≡ rs ++ missing
at_row-none id change missing [] h = refl
at_row-none id change missing (r ∷ rs) h =
    let parts = or_parts _ (has_row id rs) h in
    rw parts.0 (ap (λ l. r ∷ l) (at_row-none id change missing rs parts.1))

pub fresh : (id : Text) (vs : List Text) (rs : List Row) → has_row id rs ≡ false
    → with_values id AsWritten CommandLine vs (without id rs) ≡ rs ++ record (row id []) { values = vs } ∷ []
fresh id vs rs h =
    ap (with_values id AsWritten CommandLine vs) (at_row-none id (λ _. []) [] rs h ∙ append-nil rs) ∙ at_row-none id (more_values CommandLine vs) _ rs h

-- a second use of an id is refused
abbrev pub conflict : Bool → Kinds
conflict true = kind.ArgumentConflict ∷ []
conflict false = []

conflicts : (b : Bool) → or_else (if b && true then kind.ArgumentConflict ∷ [] else []) [] ≡ conflict b
conflicts true = refl
conflicts false = refl

pub use_option : (o : Named) (v : Text) (rs : List Row) → use_fault false (option_rule o) (v ∷ []) rs ≡ conflict (has_row (name_of o) rs)
use_option o v rs = conflicts (has_row (name_of o) rs)

pub use_c : (v : Text) (rs : List Row) → use_fault false c_rule (v ∷ []) rs ≡ conflict (has_row (codes "c-file") rs)
use_c v rs = conflicts (has_row (codes "c-file") rs)

pub use_v : (v : Text) (rs : List Row) → use_fault false v_rule (v ∷ []) rs ≡ conflict (has_row (codes "v-file") rs)
use_v v rs = conflicts (has_row (codes "v-file") rs)

pub use_flag : (rs : List Row) → use_fault false flag_rule [] rs ≡ conflict (has_row check_name rs)
use_flag rs = conflicts (has_row check_name rs)

-- what a first use adds
pub used_option : (o : Named) (v : Text) (rs : List Row) → has_row (name_of o) rs ≡ false → used (option_rule o) (v ∷ []) rs ≡ rs ++ row (name_of o) v ∷ []
used_option o v rs h = fresh (name_of o) (v ∷ []) rs h

pub used_c : (v : Text) (rs : List Row) → has_row (codes "c-file") rs ≡ false → used c_rule (v ∷ []) rs ≡ rs ++ row (codes "c-file") v ∷ []
used_c v rs h = fresh (codes "c-file") (v ∷ []) rs h

pub used_v : (v : Text) (rs : List Row) → has_row (codes "v-file") rs ≡ false → used v_rule (v ∷ []) rs ≡ rs ++ row (codes "v-file") v ∷ []
used_v v rs h = fresh (codes "v-file") (v ∷ []) rs h

pub used_flag : (rs : List Row) → has_row check_name rs ≡ false → used flag_rule [] rs ≡ rs ++ row check_name (codes "true") ∷ []
used_flag rs h = fresh check_name (codes "true" ∷ []) rs h
