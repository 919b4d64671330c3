-- Partway through members, depth-first.
use Rattle.std.specs.Prelude.{ℕ, ◌+◌, ◌*◌, List, [], ◌∷◌, ◌++◌, length, take, drop, slice_get, Option, Some, None, nat_lt, if◌then◌else◌}
use Rattle.joint_ir.specs.declared.ctype.IntType.{IntType}
use Rattle.joint_ir.specs.declared.program.Member.{Member}
use Rattle.c_structs.specs.declared.tags.Part.{Part}
use Rattle.c_structs.specs.declared.tags.Shape.{Shape}
use Rattle.c_structs.specs.declared.tags.Shape.TheVariants as shape
use Rattle.c_structs.specs.declared.depths.Frame.{Frame}
use Rattle.c_structs.specs.Tags.{Ends}
use Rattle.c_structs.specs.Lists.{TagList, known_tags, onto}
use Rattle.c_structs.specs.Under.{member_path, members_under}

-- the members of a struct that is kept, and none of one that isn't
abbrev pub listed : Option TagList → List Part
listed None = []
listed (Some l) = l.1

-- the members of a struct, by the place of its tag
abbrev pub list_at : List TagList → ℕ → List Part
list_at ls tag = listed (slice_get ls tag)

-- the member of a struct at a place
abbrev pub part_at : List TagList → (tag at : ℕ) → Option Part
part_at ls tag at = slice_get (list_at ls tag) at

-- the type of an integer member, and none of a struct
abbrev pub shape_type : Shape → Option IntType
shape_type (shape.Integer t n) = Some t
shape_type (shape.Struct i) = None

-- the length of an array member, and 0 for what is no array
abbrev pub shape_length : Shape → ℕ
shape_length (shape.Integer t n) = n
shape_length (shape.Struct i) = 0

-- a member with its whole path
abbrev pub member_at : List ℕ → Part → Member
member_at whole p = record { path = whole; place = p.name.place; ty = shape_type p.shape; length = shape_length p.shape }

-- a struct that stands before another one
abbrev pub tag_before : (tag : ℕ) → Option ℕ → Option ℕ
tag_before tag None = None
tag_before tag (Some i) = if nat_lt i tag then Some i else None

-- the struct that a member of a struct is
abbrev pub inner_tag : (tag : ℕ) → Shape → Option ℕ
inner_tag tag (shape.Integer t n) = None
inner_tag tag (shape.Struct i) = tag_before tag i

-- at the first member of a struct
abbrev pub inner_frames : List ℕ → Option ℕ → List Frame
inner_frames whole None = []
inner_frames whole (Some i) = (record { path = whole; tag = i; at = 0 }) ∷ []

-- behind the next member of a struct, and at that member's own first one
abbrev pub frames_after : Frame → Option Part → List Frame
frames_after f None = []
frames_after f (Some p) = (record { path = f.path; tag = f.tag; at = f.at + 1 }) ∷ inner_frames (member_path f.path p.name.name) (inner_tag f.tag p.shape)

-- the next member of a struct under way, if there is one
abbrev pub members_after : Frame → Option Part → List Member
members_after f None = []
members_after f (Some p) = member_at (member_path f.path p.name.name) p ∷ []

-- what is left of a struct
abbrev pub frame_members : List TagList → Frame → List Member
frame_members ls f = members_under f.path (onto (take f.tag (known_tags [] ls)) (drop f.at (list_at ls f.tag)) Ends)

-- what is left of structs, the innermost of which stands last
abbrev pub pending : List TagList → List Frame → List Member
pending ls [] = []
pending ls (f ∷ fs) = pending ls fs ++ frame_members ls f

-- no fewer than the steps that are left
abbrev pub steps_left : List TagList → List Frame → ℕ
steps_left ls fs = 2 * length (pending ls fs) + length fs
