-- Rows as vectors, and their elements; and a part of the rows.
use Rattle.std.specs.Prelude.{ℕ, ◌+◌, List, ◌++◌, length, take, drop, map, ℤ}
use Rattle.std.specs.Global.{Vec}

-- the elements that vectors hold
abbrev pub row_items : List (Vec ℤ) → List (List ℤ)
row_items rows = map (λ (row : Vec ℤ). row.items) rows

-- the rows from a place on, up to another one
abbrev pub part_of : (first end : ℕ) → List (List ℤ) → List (List ℤ)
part_of first end rows = drop first (take end rows)

-- rows with others in place of those from one on
abbrev pub replaced : (first : ℕ) → (others rows : List (List ℤ)) → List (List ℤ)
replaced first others rows = take first rows ++ (others ++ drop (first + length others) rows)
