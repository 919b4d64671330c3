-- Tags and the members of structs (C99 6.7.2.1 and 6.7.2.3).
use Rattle.std.specs.Prelude.{ℕ, List, [], ◌∷◌, ◌++◌, Bool, true, false, bytes_eq, if◌then◌else◌}
use Rattle.std.specs.List.{list_any}
use Rattle.src_text.specs.declared.kind.Kind.TheVariants.{CRedeclared, CUnknownTag}
use Rattle.c_tree.specs.declared.names.Identifier.{Identifier}
use Rattle.c_tree.specs.declared.declarations.Member.{Member}
use Rattle.c_tree.specs.declared.declarations.Member.TheVariants.{Integers, Structs}
use Rattle.c_tree.specs.declared.declarations.MemberDeclarator.{MemberDeclarator}
use Rattle.c_tree.specs.declared.declarations.MemberDeclarator.TheVariants.{Plain, Array}
use Rattle.joint_ir.specs.declared.ctype.IntType.{IntType}
use Rattle.offence_order.specs.declared.Offence.{Offence}
use Rattle.offence_order.specs.Order.{at}
use Rattle.c_words.specs.Types.{named}
use Rattle.c_names.specs.Scope.{Scope}
use Rattle.c_constants.specs.Constants.{constant_of}
use Rattle.c_statements.specs.Arrays.{array_length, array_offences}

-- The members of a struct, in text order. An integer that is no array has the length 0.
pub data Parts : Type 0 where
  Ends : Parts
  Integer : (x : Identifier) → (ty : IntType) → (length : ℕ) → (rest : Parts) → Parts
  Struct : (x : Identifier) → (inner rest : Parts) → Parts

-- a tag, and the members of its struct
abbrev pub Tag : Type 0
Tag = List ℕ × Parts

-- whether a tag was declared
abbrev pub is_tag : List Tag → List ℕ → Bool
is_tag [] name = false
is_tag (t ∷ tags) name = if bytes_eq name t.0 then true else is_tag tags name

-- the members of the struct that a tag names; an unknown one has none
abbrev pub tag_parts : List Tag → List ℕ → Parts
tag_parts [] name = Ends
tag_parts (t ∷ tags) name = if bytes_eq name t.0 then t.1 else tag_parts tags name

-- with a tag, where it isn't declared yet
abbrev pub with_tag : List Tag → List ℕ → Parts → List Tag
with_tag tags name parts = if is_tag tags name then tags else tags ++ (name, parts) ∷ []

-- the name of an integer member
abbrev pub item_name : MemberDeclarator → Identifier
item_name (Plain x) = x
item_name (Array x n) = x

-- 0 for what is no array
abbrev pub item_length : MemberDeclarator → ℕ
item_length (Plain x) = 0
item_length (Array x n) = array_length (constant_of n)

-- integers of one type before other members
abbrev pub integers : IntType → List MemberDeclarator → Parts → Parts
integers t [] rest = rest
integers t (d ∷ ds) rest = Integer (item_name d) t (item_length d) (integers t ds rest)

-- structs with the same members before other members
abbrev pub structs : Parts → List Identifier → Parts → Parts
structs inner [] rest = rest
structs inner (x ∷ xs) rest = Struct x inner (structs inner xs rest)

-- the members that declarations declare, where some tags are known (C99 6.7.2.1)
abbrev pub parts_of : List Tag → List Member → Parts
parts_of tags [] = Ends
parts_of tags (Integers t ds ∷ ms) = integers (named t.integer) ds (parts_of tags ms)
parts_of tags (Structs p tag xs ∷ ms) = structs (tag_parts tags tag.name) xs (parts_of tags ms)

-- whether a name is among those of a struct so far, and those with it
abbrev pub has_name : List (List ℕ) → List ℕ → Bool
has_name names name = list_any (bytes_eq name) names

-- with a name, where it isn't there yet
abbrev pub with_name : List (List ℕ) → List ℕ → List (List ℕ)
with_name names name = if has_name names name then names else names ++ name ∷ []

-- a member's name that was declared before in its struct
abbrev pub again_at : Identifier → (again : Bool) → List Offence
again_at x true = at x.place CRedeclared
again_at x false = []

-- a member's name stands once in its struct (C99 6.7p3)
abbrev pub again_offences : List (List ℕ) → Identifier → List Offence
again_offences names x = again_at x (has_name names x.name)

-- what the length of an array member offends
abbrev pub length_offences : List Scope → MemberDeclarator → List Offence
length_offences env (Plain x) = []
length_offences env (Array x n) = array_offences env n

-- what an integer member offends: its length, then its name
abbrev pub item_offences : List Scope → List (List ℕ) → MemberDeclarator → List Offence
item_offences env names d = length_offences env d ++ again_offences names (item_name d)

-- what integer members of one type offend, in order
abbrev pub items_offences : List Scope → List (List ℕ) → List MemberDeclarator → List Offence
items_offences env names [] = []
items_offences env names (d ∷ ds) = item_offences env names d ++ items_offences env (with_name names (item_name d).name) ds

-- what the names of struct members offend, in order
abbrev pub names_offences : List (List ℕ) → List Identifier → List Offence
names_offences names [] = []
names_offences names (x ∷ xs) = again_offences names x ++ names_offences (with_name names x.name) xs

-- the names after some that are declared
abbrev pub items_names : List (List ℕ) → List MemberDeclarator → List (List ℕ)
items_names names [] = names
items_names names (d ∷ ds) = items_names (with_name names (item_name d).name) ds

-- the names of a struct so far, with those of struct members
abbrev pub structs_names : List (List ℕ) → List Identifier → List (List ℕ)
structs_names names [] = names
structs_names names (x ∷ xs) = structs_names (with_name names x.name) xs

-- the names of a struct so far, with those of a declaration
abbrev pub member_names : List (List ℕ) → Member → List (List ℕ)
member_names names (Integers t ds) = items_names names ds
member_names names (Structs p tag xs) = structs_names names xs

-- a tag that no struct which ended before declares
abbrev pub unknown_at : Identifier → (known : Bool) → List Offence
unknown_at tag true = []
unknown_at tag false = at tag.place CUnknownTag

-- the struct of a member has to be complete before it (C99 6.7.2.1p2)
abbrev pub unknown_offences : List Tag → Identifier → List Offence
unknown_offences tags tag = unknown_at tag (is_tag tags tag.name)

-- what a declaration of members offends
abbrev pub member_offences : List Scope → List Tag → List (List ℕ) → Member → List Offence
member_offences env tags names (Integers t ds) = items_offences env names ds
member_offences env tags names (Structs p tag xs) = unknown_offences tags tag ++ names_offences names xs

-- what declarations of members offend, in order
abbrev pub members_offences : List Scope → List Tag → List (List ℕ) → List Member → List Offence
members_offences env tags names [] = []
members_offences env tags names (m ∷ ms) = member_offences env tags names m ++ members_offences env tags (member_names names m) ms

-- a tag that was declared before
abbrev pub tag_offences : List Tag → Identifier → List Offence
tag_offences tags tag = again_at tag (is_tag tags tag.name)
