-- A list of limits: entries `NAME:COUNT`, parted by `,`. NAME is an identifier of C followed by `.unwind.` and a number from 1
-- to 4,294,967,295 without leading zeros, or by `.recursion.1`. COUNT is from 1 to 10,000. No NAME stands twice.
use Rattle.std.specs.Prelude.{ℕ, Bool, true, false, ◌==◌, ◌&&◌, ◌||◌, List, [], ◌∷◌, length, Option, None, Some, if◌then◌else◌, option_map, option_and_then, nat_lt, bytes_eq, codes}
use Rattle.std.specs.List.{list_any, position_or_len, before_first, after_first, slice_split}
use Rattle.joint_ir.specs.declared.naming.NamedLimit.{NamedLimit}
use Rattle.command_options.specs.Names.{is_c_name}
use Rattle.command_options.specs.Numbers.{number_in, is_plain_number}

-- what stands before the first such byte, and what stands behind it
abbrev pub cut : (byte : ℕ) → List ℕ → Option (List ℕ × List ℕ)
cut byte text =
    if nat_lt (position_or_len (λ b. b == byte) text) (length text) then Some (before_first (λ b. b == byte) text, after_first (λ b. b == byte) text) else None

-- `unwind.NUMBER` or `recursion.1`; 46 is `.`
abbrev pub ends_limit : Option (List ℕ × List ℕ) → Bool
ends_limit None = false
ends_limit (Some p) = (bytes_eq p.0 (codes "unwind") && is_plain_number p.1) || (bytes_eq p.0 (codes "recursion") && bytes_eq p.1 (codes "1"))

-- an identifier of C before the first `.`, and the end of a limit's name behind it
abbrev pub is_limit_of : Option (List ℕ × List ℕ) → Bool
is_limit_of None = false
is_limit_of (Some p) = is_c_name p.0 && ends_limit (cut 46 p.1)

-- the name of a property that has a limit
abbrev pub is_limit_name : List ℕ → Bool
is_limit_name name = is_limit_of (cut 46 name)

-- the limit of a count, if the name is a limit's and the count was read
abbrev pub limit_of : (name : List ℕ) → Option ℕ → Option NamedLimit
limit_of name None = None
limit_of name (Some count) = if is_limit_name name then Some (record { name = name; count = count }) else None

-- a name and a count from 1 to 10,000
abbrev pub entry_at : Option (List ℕ × List ℕ) → Option NamedLimit
entry_at None = None
entry_at (Some p) = limit_of p.0 (number_in 1 10000 p.1)

-- one entry; 58 is `:`
abbrev pub entry_in : List ℕ → Option NamedLimit
entry_in text = entry_at (cut 58 text)

-- an entry before the others; none where one of them isn't of the form
abbrev pub with_entry : Option NamedLimit → Option (List NamedLimit) → Option (List NamedLimit)
with_entry None rest = None
with_entry (Some entry) rest = option_map (λ entries. entry ∷ entries) rest

-- all entries, if each piece is one
abbrev pub entries_of : List (List ℕ) → Option (List NamedLimit)
entries_of [] = Some []
entries_of (piece ∷ pieces) = with_entry (entry_in piece) (entries_of pieces)

-- no name stands twice
abbrev pub are_apart : List NamedLimit → Bool
are_apart [] = true
are_apart (entry ∷ entries) = if list_any (λ other. bytes_eq other.name entry.name) entries then false else are_apart entries

-- the entries, if no name stands twice
abbrev pub if_apart : List NamedLimit → Option (List NamedLimit)
if_apart entries = if are_apart entries then Some entries else None

-- the limits that a text lists, if it is of the form; 44 is `,`
abbrev pub limits_in : List ℕ → Option (List NamedLimit)
limits_in text = option_and_then if_apart (entries_of (slice_split (λ b. b == 44) text))
