-- The members of a struct so far, as they are kept.
use Rattle.std.specs.Prelude.{◌≡◌, ℕ, List, [], ◌∷◌, ◌++◌, Option}
use Rattle.c_tree.specs.declared.names.Identifier.{Identifier}
use Rattle.c_tree.specs.declared.declarations.Member.{Member}
use Rattle.c_tree.specs.declared.declarations.Member.TheVariants.{Integers, Structs}
use Rattle.c_tree.specs.declared.declarations.MemberDeclarator.{MemberDeclarator}
use Rattle.joint_ir.specs.declared.ctype.IntType.{IntType}
use Rattle.c_words.specs.declared.notes.Notes.{Notes}
use Rattle.c_words.specs.Types.{named}
use Rattle.c_names.specs.Scope.{Scope}
use Rattle.c_constants.specs.Constants.{told}
use Rattle.c_structs.specs.declared.tags.Part.{Part}
use Rattle.c_structs.specs.declared.tags.Shape.{Shape}
use Rattle.c_structs.specs.declared.tags.Shape.TheVariants as shape
use Rattle.c_structs.specs.declared.members.Reading.{Reading}
use Rattle.c_structs.specs.Tags.{Ends, Tag, item_name, item_length, with_name, items_offences, names_offences, member_offences, members_offences, parts_of}
use Rattle.c_structs.specs.Lists.{tag_number, onto}

-- nothing read
abbrev pub nothing_read : Reading
nothing_read = record { names = []; parts = [] }

-- with a member, and with those of declarations
abbrev pub with_part : Reading → Identifier → Shape → Reading
with_part r x s = record { names = with_name r.names x.name; parts = r.parts ++ (record { name = x; shape = s }) ∷ [] }

-- with an integer member
abbrev pub with_item : Reading → IntType → MemberDeclarator → Reading
with_item r t d = with_part r (item_name d) (shape.Integer t (item_length d))

-- with integer members of one type
abbrev pub with_items : Reading → IntType → List MemberDeclarator → Reading
with_items r t [] = r
with_items r t (d ∷ ds) = with_items (with_item r t d) t ds

-- with members that are the same struct
abbrev pub with_structs : Reading → Option ℕ → List Identifier → Reading
with_structs r i [] = r
with_structs r i (x ∷ xs) = with_structs (with_part r x (shape.Struct i)) i xs

-- with the members of one declaration
abbrev pub with_member : List Tag → Reading → Member → Reading
with_member tags r (Integers t ds) = with_items r (named t.integer) ds
with_member tags r (Structs p tag xs) = with_structs r (tag_number tags tag.name) xs

-- with the members of declarations, in order
abbrev pub with_members : List Tag → Reading → List Member → Reading
with_members tags r [] = r
with_members tags r (m ∷ ms) = with_members tags (with_member tags r m) ms

-- declarations were read: what is known then, and what was noted
pub record ReadsItems (env : List Scope) (old new : Notes) (t : IntType) (ds : List MemberDeclarator) (before after : Reading) : Type 0 where
  pub reading : after ≡ with_items before t ds
  pub notes : new ≡ told old (items_offences env before.names ds)

-- struct members were read: what is known then, and what was noted
pub record ReadsNames (old new : Notes) (i : Option ℕ) (xs : List Identifier) (before after : Reading) : Type 0 where
  pub reading : after ≡ with_structs before i xs
  pub notes : new ≡ told old (names_offences before.names xs)

-- a declaration of members was read: what is known then, and what was noted
pub record ReadsMember (env : List Scope) (tags : List Tag) (old new : Notes) (m : Member) (before after : Reading) : Type 0 where
  pub reading : after ≡ with_member tags before m
  pub notes : new ≡ told old (member_offences env tags before.names m)

-- the members of a struct
pub record AreParts (env : List Scope) (tags : List Tag) (old new : Notes) (ms : List Member) (ps : List Part) : Type 0 where
  pub parts : onto tags ps Ends ≡ parts_of tags ms
  pub notes : new ≡ told old (members_offences env tags [] ms)
