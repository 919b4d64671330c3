-- The declaration of a struct (C99 6.7.2.3).
use Rattle.std.specs.Prelude.{List, [], ◌++◌}
use Rattle.c_tree.specs.declared.names.Identifier.{Identifier}
use Rattle.c_tree.specs.declared.declarations.Member.{Member}
use Rattle.offence_order.specs.declared.Offence.{Offence}
use Rattle.c_names.specs.Scope.{Scope}
use Rattle.c_structs.specs.declared.Structs.{Structs}
use Rattle.c_structs.specs.Tags.{tag_offences, members_offences, with_tag, parts_of}

-- the offences of a struct's declaration, in scopes and behind other declarations. Its own tag isn't known inside it
abbrev pub struct_offences : List Scope → Structs → Identifier → List Member → List Offence
struct_offences env s tag ms = tag_offences s.tags tag ++ members_offences env s.tags [] ms

-- what is declared after a struct's declaration: a tag that was declared before keeps its members
abbrev pub with_struct : Structs → Identifier → List Member → Structs
with_struct s tag ms = record { tags = with_tag s.tags tag.name (parts_of s.tags ms); mirror = s.mirror }
