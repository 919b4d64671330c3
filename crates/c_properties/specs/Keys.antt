-- Numbers that order properties by kind, then line, then column.
use Rattle.std.specs.Prelude.{◌≡◌, ℕ, ◌+◌, ◌*◌, ◌<◌, List, take, map, All}
use Rattle.joint_ir.specs.declared.program.PropKind.{PropKind}
use Rattle.joint_ir.specs.WellFormed.{kind_number}
use Rattle.c_words.specs.declared.notes.Site.{Site}

-- the least key of a kind
abbrev pub floor_of : PropKind → ℕ
floor_of kind = kind_number kind * 18446744073709551616

-- lines and columns are below 2^32
abbrev pub key_of : Site → ℕ
key_of s = floor_of s.kind + s.place.line * 4294967296 + s.place.column

-- lines and columns are numbers of 32 bits
pub record IsPlaced (s : Site) : Type 0 where
  pub line : s.place.line < 4294967296
  pub column : s.place.column < 4294967296

-- after some properties: their keys, and that they have places
pub record KeysSoFar (sites : List Site) (i : ℕ) (keys : List ℕ) : Type 0 where
  pub keys_so : keys ≡ map key_of (take i sites)
  pub placed_so : All IsPlaced (take i sites)
