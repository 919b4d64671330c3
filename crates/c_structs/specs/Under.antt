-- The members of an object, depth-first, by their dotted paths (C99 6.5.2.3).
use Rattle.std.specs.Prelude.{ℕ, List, [], ◌∷◌, ◌++◌, length, Option, Some, None, nat_le, if◌then◌else◌}
use Rattle.joint_ir.specs.declared.program.Member.{Member}
use Rattle.c_structs.specs.Tags.{Parts, Ends, Integer, Struct}

-- a member of what a path leads to
abbrev pub member_path : List ℕ → List ℕ → List ℕ
member_path whole name = whole ++ 46 ∷ name

-- all members of what a path leads to, depth-first: a struct before its own members, and these before what follows it
abbrev pub members_under : List ℕ → Parts → List Member
members_under whole Ends = []
members_under whole (Integer x t n rest) = (record { path = member_path whole x.name; place = x.place; ty = Some t; length = n }) ∷ members_under whole rest
members_under whole (Struct x inner rest) =
    (record { path = member_path whole x.name; place = x.place; ty = None; length = 0 }) ∷ (members_under (member_path whole x.name) inner ++ members_under whole rest)

-- the most members that a mirror has, nested ones counted
abbrev pub most_members : ℕ
most_members = 65536

-- members, where they aren't too many
abbrev pub few : List Member → Option (List Member)
few ms = if nat_le (length ms) most_members then Some ms else None
