-- Small structs and mirrors, worked out by hand.
use Rattle.std.proofs.Common.{◌≡◌, ℕ, List, [], ◌∷◌, map, true, false, refl}
use Rattle.std.specs.Prelude.{Some, None, codes}
use Rattle.src_text.specs.declared.refusal.Place.{Place}
use Rattle.src_text.specs.declared.kind.Kind.TheVariants.{CRedeclared, CUnknownTag, CLength, CExtern}
use Rattle.c_tree.specs.declared.names.Identifier.{Identifier}
use Rattle.c_tree.specs.declared.declarations.IntegerType.{IntegerType}
use Rattle.c_tree.specs.declared.declarations.IntegerType.TheVariants as word
use Rattle.c_tree.specs.declared.declarations.Member.{Member}
use Rattle.c_tree.specs.declared.declarations.Member.TheVariants as member
use Rattle.c_tree.specs.declared.declarations.MemberDeclarator.TheVariants.{Plain, Array}
use Rattle.c_tree.specs.declared.declarations.Sign.TheVariants.{Signed, Unsigned}
use Rattle.c_tree.specs.declared.declarations.TypeName.{TypeName}
use Rattle.c_tree.specs.declared.expressions.Expression as expression
use Rattle.joint_ir.specs.declared.expr.Slot.TheVariants.{Member as InMirror, BoundValue}
use Rattle.joint_ir.specs.declared.program.Member.{Member as AMember}
use Rattle.offence_order.specs.Order.{at}
use Rattle.c_words.specs.Types.{sized}
use Rattle.c_names.specs.declared.scope.Entry.TheVariants as entry
use Rattle.c_names.specs.Scope.{Scope, lookup}
use Rattle.c_structs.specs.declared.Structs.{Structs}
use Rattle.c_structs.specs.Tags.{Ends, Integer, item_length}
use Rattle.c_structs.specs.Structs.{with_struct, struct_offences}
use Rattle.c_structs.specs.Mirror.{nothing_declared, kept, few_members, with_mirror, mirror_offences, mirror_scopes, bound_offences, bound_scopes}

abbrev place : ℕ → ℕ → Place
place line column = record { line = line; column = column }

abbrev called : ℕ → ℕ → List ℕ → Identifier
called line column name = record { place = place line column; name = name }

abbrev byte : ℕ → ℕ → Identifier → Member
byte line column x = member.Integers (record { place = place line column; integer = word.Char Unsigned }) (Plain x ∷ [])

-- `struct stage { unsigned char q; };`
abbrev stage : Identifier
stage = called 1 8 (codes "stage")

abbrev stage_q : Identifier
stage_q = called 1 30 (codes "q")

abbrev stage_members : List Member
stage_members = byte 1 16 stage_q ∷ []

abbrev stages : Structs
stages = with_struct nothing_declared stage stage_members

stage_declared : stages ≡ record { tags = (codes "stage", Integer stage_q (sized 8 false) 0 Ends) ∷ []; mirror = None }
stage_declared = refl

stage_clean : struct_offences ([] ∷ []) nothing_declared stage stage_members ≡ []
stage_clean = refl

-- `struct pipe { unsigned char d; struct stage s1; struct stage s2; unsigned char q; };`
abbrev pipe : Identifier
pipe = called 2 8 (codes "pipe")

abbrev pipe_members : List Member
pipe_members =
    byte 2 15 (called 2 29 (codes "d")) ∷ member.Structs (place 2 32) (called 2 39 (codes "stage")) (called 2 45 (codes "s1") ∷ called 2 49 (codes "s2") ∷ [])
    ∷ byte 2 53 (called 2 67 (codes "q")) ∷ []

abbrev pipes : Structs
pipes = with_struct stages pipe pipe_members

pipe_clean : struct_offences ([] ∷ []) stages pipe pipe_members ≡ []
pipe_clean = refl

-- `extern struct pipe pipe;`
abbrev mirror : Identifier
mirror = called 3 20 (codes "pipe")

-- the members of a struct stand behind it, and before what follows it
pipe_paths : map (λ (m : AMember). m.path) (kept (few_members pipes pipe mirror))
    ≡ codes "pipe.d" ∷ codes "pipe.s1" ∷ codes "pipe.s1.q" ∷ codes "pipe.s2" ∷ codes "pipe.s2.q" ∷ codes "pipe.q" ∷ []
pipe_paths = refl

-- their places are those in the structs
pipe_places : map (λ (m : AMember). m.place) (kept (few_members pipes pipe mirror)) ≡ place 2 29 ∷ place 2 45 ∷ place 1 30 ∷ place 2 49 ∷ place 1 30 ∷ place 2 67 ∷ []
pipe_places = refl

mirror_clean : mirror_offences ([] ∷ []) pipes pipe mirror ≡ []
mirror_clean = refl

-- a member is called by its path, and a struct by none
abbrev scopes : List Scope
scopes = mirror_scopes ([] ∷ []) pipes pipe mirror

mirror_called : lookup scopes (codes "pipe") ≡ Some entry.Mirror
mirror_called = refl

member_called : lookup scopes (codes "pipe.s2.q") ≡ Some (entry.Object (record { slot = InMirror 4; ty = sized 8 false; length = 0; constant = false }))
member_called = refl

struct_uncalled : lookup scopes (codes "pipe.s2") ≡ None
struct_uncalled = refl

-- `struct a { int x; char x; };`: the second `x`
member_again :
    struct_offences ([] ∷ []) nothing_declared (called 1 8 (codes "a"))
    (member.Integers (record { place = place 1 12; integer = word.Int Signed }) (Plain (called 1 16 (codes "x")) ∷ [])
    ∷ member.Integers (record { place = place 1 19; integer = word.Char Signed }) (Plain (called 1 24 (codes "x")) ∷ []) ∷ [])
    ≡ at (place 1 24) CRedeclared
member_again = refl

-- `struct a { struct a x; };`: no tag is known inside its own struct
own_tag : struct_offences ([] ∷ []) nothing_declared (called 1 8 (codes "a")) (member.Structs (place 1 12) (called 1 19 (codes "a")) (called 1 21 (codes "x") ∷ []) ∷ []) ≡ at (place 1 19) CUnknownTag
own_tag = refl

-- `int t[4]` has 4 elements, and an array can't have none
four : item_length (Array (called 1 16 (codes "t")) (expression.Integer (place 1 18) (codes "4"))) ≡ 4
four = refl

no_elements :
    struct_offences ([] ∷ []) nothing_declared (called 1 8 (codes "a"))
    (member.Integers (record { place = place 1 12; integer = word.Int Signed }) (Array (called 1 16 (codes "t")) (expression.Integer (place 1 18) (codes "0")) ∷ []) ∷ [])
    ≡ at (place 1 18) CLength
no_elements = refl

-- a tag for the second time, which keeps its members
tag_again : struct_offences ([] ∷ []) stages (called 2 8 (codes "stage")) (byte 2 16 (called 2 30 (codes "k")) ∷ []) ≡ at (place 2 8) CRedeclared
tag_again = refl

tag_kept : with_struct stages (called 2 8 (codes "stage")) (byte 2 16 (called 2 30 (codes "k")) ∷ []) ≡ stages
tag_kept = refl

-- `extern struct other pipe;`, and a mirror behind another one
unknown_mirror : mirror_offences ([] ∷ []) pipes (called 3 15 (codes "other")) mirror ≡ at (place 3 15) CUnknownTag
unknown_mirror = refl

second_mirror : mirror_offences scopes (with_mirror pipes pipe mirror) stage (called 4 21 (codes "stage")) ≡ at (place 4 21) CExtern
second_mirror = refl

-- `extern const unsigned int bound;`, `extern const uint32_t bound;`, `extern const int bound;` and `extern const unsigned int limit;`
abbrev typed : IntegerType → TypeName
typed integer = record { place = place 1 14; integer = integer }

bound_clean : bound_offences ([] ∷ []) (typed (word.Int Unsigned)) (called 1 27 (codes "bound")) ≡ []
bound_clean = refl

same_type_clean : bound_offences ([] ∷ []) (typed word.Uint32) (called 1 23 (codes "bound")) ≡ []
same_type_clean = refl

bound_signed : bound_offences ([] ∷ []) (typed (word.Int Signed)) (called 1 18 (codes "bound")) ≡ at (place 1 18) CExtern
bound_signed = refl

bound_named : bound_offences ([] ∷ []) (typed (word.Int Unsigned)) (called 1 27 (codes "limit")) ≡ at (place 1 27) CExtern
bound_named = refl

bound_again : bound_offences (bound_scopes ([] ∷ []) (called 1 27 (codes "bound"))) (typed (word.Int Unsigned)) (called 2 27 (codes "bound")) ≡ at (place 2 27) CRedeclared
bound_again = refl

bound_called : lookup (bound_scopes ([] ∷ []) (called 1 27 (codes "bound"))) (codes "bound") ≡ Some (entry.Object (record { slot = BoundValue; ty = sized 32 false; length = 0; constant = true }))
bound_called = refl
