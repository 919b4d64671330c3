-- Structs as they are kept: the members of each as a list, in which a struct is named by the place of its tag.
use Rattle.std.specs.Prelude.{ℕ, List, [], ◌∷◌, ◌++◌, map, position, slice_get, Option, Some, None, bytes_eq, String, string_bytes}
use Rattle.std.specs.HashMap.{HashMap}
use Rattle.c_tree.specs.declared.names.Identifier.{Identifier}
use Rattle.c_structs.specs.declared.tags.Part.{Part}
use Rattle.c_structs.specs.declared.tags.Shape.{Shape}
use Rattle.c_structs.specs.declared.tags.Shape.TheVariants as shape
use Rattle.c_structs.specs.Tags.{Parts, Ends, Integer, Struct, Tag}

-- a tag, and its members as a list
abbrev pub TagList : Type 0
TagList = List ℕ × List Part

-- what a table of tags holds, in the order in which they were declared
abbrev pub lists_of : {Y S : Type 0} → HashMap (String Y) (List Part) S → List TagList
lists_of m = map (λ e. (string_bytes e.0, e.1)) m.entries

-- the place of a tag among those known
abbrev pub tag_number : List Tag → List ℕ → Option ℕ
tag_number tags name = position (λ t. bytes_eq name t.0) tags

-- the members of a struct, and none where there is no struct
abbrev pub parts_in : Option Tag → Parts
parts_in None = Ends
parts_in (Some t) = t.1

-- the members of a struct by the place of its tag; one that isn't known has none
abbrev pub inner_of : List Tag → Option ℕ → Parts
inner_of tags None = Ends
inner_of tags (Some i) = parts_in (slice_get tags i)

-- a member before others
abbrev pub shaped_onto : List Tag → Identifier → Shape → Parts → Parts
shaped_onto tags x (shape.Integer t n) rest = Integer x t n rest
shaped_onto tags x (shape.Struct i) rest = Struct x (inner_of tags i) rest

-- members before others
abbrev pub onto : List Tag → List Part → Parts → Parts
onto tags [] rest = rest
onto tags (p ∷ ps) rest = shaped_onto tags p.name p.shape (onto tags ps rest)

-- the tags that lists declare behind some that are known: the structs in each are those declared before it
abbrev pub known_tags : List Tag → List TagList → List Tag
known_tags tags [] = tags
known_tags tags (l ∷ ls) = known_tags (tags ++ (l.0, onto tags l.1 Ends) ∷ []) ls
