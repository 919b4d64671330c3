-- Tables that keep the first entry of each name.
use Rattle.std.specs.Prelude.{◌≡◌, ℕ, List}
use Rattle.std.specs.Option.{option_or}
use Rattle.name_table.specs.Tables.{find_in}

-- the table finds what it found before, and else what stands in these entries
abbrev pub Keeps : {V : Type 0} → List (List ℕ × V) → List (List ℕ × V) → List (List ℕ × V) → Type 0
Keeps old new entries = (name : List ℕ) → find_in new name ≡ option_or (find_in old name) (find_in entries name)
