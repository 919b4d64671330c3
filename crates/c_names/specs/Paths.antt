-- What paths lead to (C99 6.5.1, 6.5.2.1 and 6.5.2.3).
use Rattle.std.specs.Prelude.{ℕ, List, [], ◌∷◌, ◌++◌, Option, Some, None, Bool, nat_lt, if◌then◌else◌}
use Rattle.c_tree.specs.declared.names.Identifier.{Identifier}
use Rattle.c_tree.specs.declared.expressions.Object.{Object}
use Rattle.c_words.specs.Types.{same_bool}
use Rattle.c_names.specs.declared.scope.Entry.{Entry}
use Rattle.c_names.specs.declared.scope.Entry.TheVariants as entry
use Rattle.c_names.specs.declared.scope.Target.{Target}
use Rattle.c_names.specs.declared.paths.Found.{Found}
use Rattle.c_names.specs.declared.paths.Found.TheVariants.{Unknown, Other, Integer}
use Rattle.c_names.specs.Scope.{Scope, lookup}

-- names, each behind a dot
abbrev pub behind_dots : List Identifier → List ℕ
behind_dots [] = []
behind_dots (m ∷ members) = 46 ∷ m.name ++ behind_dots members

-- the names of a path, with dots between them
abbrev pub dotted : Object → List ℕ
dotted o = o.name.name ++ behind_dots o.members

-- a member of the mirror, by what its dotted path means
abbrev pub member_found : Option Entry → Found
member_found None = Other
member_found (Some (entry.Object o)) = Integer o
member_found (Some entry.Mirror) = Other
member_found (Some (entry.Function f)) = Other
member_found (Some entry.Pending) = Other

-- an object, which has no members
abbrev pub object_found : Target → List Identifier → Found
object_found o [] = Integer o
object_found o (m ∷ members) = Other

-- what a path leads to, by what its first name means
abbrev pub reached : List Scope → Object → Option Entry → Found
reached env x None = Unknown
reached env x (Some entry.Pending) = Unknown
reached env x (Some (entry.Function f)) = Other
reached env x (Some (entry.Object o)) = object_found o x.members
reached env x (Some entry.Mirror) = member_found (lookup env (dotted x))

-- an array with an index, or no array without one
abbrev pub shaped : (indexed : Bool) → Found → Found
shaped indexed Unknown = Unknown
shaped indexed Other = Other
shaped indexed (Integer o) = if same_bool (nat_lt 0 o.length) indexed then Integer o else Other

-- what a path leads to, where it has an index or none
abbrev pub found : List Scope → (indexed : Bool) → Object → Found
found env indexed x = shaped indexed (reached env x (lookup env x.name.name))
