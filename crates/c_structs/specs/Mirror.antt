-- The mirror, its members and what they are called (C99 6.5.2.3), and the object `bound`.
use Rattle.std.specs.Prelude.{ℕ, ◌+◌, List, [], ◌∷◌, ◌++◌, codes, Option, Some, None, true, false, ◌&&◌, bytes_eq, if◌then◌else◌}
use Rattle.src_text.specs.declared.kind.Kind.TheVariants.{CRedeclared, CExtern}
use Rattle.c_tree.specs.declared.names.Identifier.{Identifier}
use Rattle.c_tree.specs.declared.declarations.TypeName.{TypeName}
use Rattle.joint_ir.specs.declared.expr.Slot.TheVariants.{Member as InMirror, BoundValue}
use Rattle.joint_ir.specs.declared.ctype.IntType.{IntType}
use Rattle.joint_ir.specs.declared.program.Member.{Member}
use Rattle.joint_ir.specs.declared.program.MirrorDecl.{MirrorDecl}
use Rattle.offence_order.specs.declared.Offence.{Offence}
use Rattle.offence_order.specs.Order.{at}
use Rattle.c_words.specs.Types.{named, sized, same_type}
use Rattle.c_words.specs.Marks.{number_of}
use Rattle.c_names.specs.declared.scope.Entry.{Entry}
use Rattle.c_names.specs.declared.scope.Entry.TheVariants as entry
use Rattle.c_names.specs.Scope.{Scope, declare, declared_in}
use Rattle.c_structs.specs.declared.Structs.{Structs}
use Rattle.c_structs.specs.Tags.{tag_parts, unknown_offences}
use Rattle.c_structs.specs.Under.{members_under, few}

-- nothing declared
abbrev pub nothing_declared : Structs
nothing_declared = record { tags = []; mirror = None }

-- the members that a mirror is declared with
abbrev pub kept : Option (List Member) → List Member
kept None = []
kept (Some ms) = ms

-- the members of a mirror with a name and a tag, where they aren't too many
abbrev pub few_members : Structs → (tag name : Identifier) → Option (List Member)
few_members s tag name = few (members_under name.name (tag_parts s.tags tag.name))

-- a name that was declared before in its scope
abbrev pub name_again : Identifier → Option Entry → List Offence
name_again x None = []
name_again x (Some e) = at x.place CRedeclared

-- a mirror of too many members
abbrev pub many_offences : Identifier → Option (List Member) → List Offence
many_offences x None = at x.place CExtern
many_offences x (Some ms) = []

-- a second mirror, or one of too many members
abbrev pub extern_offences : Structs → (tag name : Identifier) → Option MirrorDecl → List Offence
extern_offences s tag name (Some m) = at name.place CExtern
extern_offences s tag name None = many_offences name (few_members s tag name)

-- the offences of a mirror's declaration, in scopes and behind other declarations
abbrev pub mirror_offences : List Scope → Structs → (tag name : Identifier) → List Offence
mirror_offences env s tag name =
    unknown_offences s.tags tag ++ (name_again name (declared_in env name.name) ++ extern_offences s tag name s.mirror)

-- the mirror of a first declaration: one of too many members has none
abbrev pub mirror_after : Structs → (tag name : Identifier) → Option MirrorDecl → Option MirrorDecl
mirror_after s tag name (Some m) = Some m
mirror_after s tag name None = Some (record { name = name.name; place = name.place; members = kept (few_members s tag name) })

-- what is declared after a mirror's declaration
abbrev pub with_mirror : Structs → (tag name : Identifier) → Structs
with_mirror s tag name = record { tags = s.tags; mirror = mirror_after s tag name s.mirror }

-- an integer member of the mirror, by its place among all members, is an object with its dotted path as its name
abbrev pub with_member_of : List Scope → (place : ℕ) → Member → Option IntType → List Scope
with_member_of env i m None = env
with_member_of env i m (Some t) = declare env m.path (entry.Object (record { slot = InMirror (number_of i); ty = t; length = m.length; constant = false }))

-- the scopes with the integer members of the mirror, from a place on
abbrev pub with_members_of : List Scope → (place : ℕ) → List Member → List Scope
with_members_of env i [] = env
with_members_of env i (m ∷ ms) = with_members_of (with_member_of env i m m.ty) (i + 1) ms

-- the scopes after a mirror's declaration: a second one declares nothing
abbrev pub scopes_after : List Scope → Structs → (tag name : Identifier) → Option MirrorDecl → List Scope
scopes_after env s tag name (Some m) = env
scopes_after env s tag name None = with_members_of (declare env name.name entry.Mirror) 0 (kept (few_members s tag name))

-- the scopes behind a mirror's declaration
abbrev pub mirror_scopes : List Scope → Structs → (tag name : Identifier) → List Scope
mirror_scopes env s tag name = scopes_after env s tag name s.mirror

-- the type `unsigned int`
abbrev pub unsigned_int : IntType
unsigned_int = sized 32 false

-- what isn't `extern const unsigned int bound`
abbrev pub other_offences : TypeName → Identifier → List Offence
other_offences t x = if same_type (named t.integer) unsigned_int && bytes_eq x.name (codes "bound") then [] else at x.place CExtern

-- what the declaration of `bound` offends: its name that was declared before, and another type or name
abbrev pub bound_offences : List Scope → TypeName → Identifier → List Offence
bound_offences env t x = name_again x (declared_in env x.name) ++ other_offences t x

-- a constant object that holds the number of frames
abbrev pub bound_scopes : List Scope → Identifier → List Scope
bound_scopes env x = declare env x.name (entry.Object (record { slot = BoundValue; ty = unsigned_int; length = 0; constant = true }))
