-- What is true of all that structs declare, declaration by declaration.
use Rattle.std.proofs.Common.{◌≡◌, ℕ, ◌+◌, ◌≤◌, List, [], ◌∷◌, ◌++◌, length, Bool, true, false, refl, ◌∙◌, arith}
use Rattle.std.specs.Prelude.{cond, nat_le, bytes_eq, Option, Some, None, All}
use Rattle.std.proofs.lemmas.Bool.Decides.{nat_tests}
use Rattle.std.proofs.lemmas.List.Elements.{All-nil, All-cons, All-head, All-tail, All-append}
use Rattle.c_tree.specs.declared.names.Identifier.{Identifier}
use Rattle.c_tree.specs.declared.declarations.IntegerType.{IntegerType}
use Rattle.c_tree.specs.declared.declarations.IntegerType.TheVariants as word
use Rattle.c_tree.specs.declared.declarations.Member.{Member}
use Rattle.c_tree.specs.declared.declarations.Member.TheVariants.{Integers, Structs as Nested}
use Rattle.c_tree.specs.declared.declarations.MemberDeclarator.{MemberDeclarator}
use Rattle.joint_ir.specs.declared.ctype.IntType.{IntType}
use Rattle.joint_ir.specs.declared.program.Member.{Member as AMember}
use Rattle.joint_ir.specs.declared.program.MirrorDecl.{MirrorDecl}
use Rattle.joint_ir.specs.Types.{IsType, Truth, Byte, Half, Single, Double}
use Rattle.joint_ir.specs.Views.{members_of}
use Rattle.joint_ir.specs.WellFormed.{FitsMember}
use Rattle.c_words.specs.Types.{named, is_signed}
use Rattle.c_names.specs.declared.scope.Entry.{Entry}
use Rattle.c_names.specs.declared.scope.Entry.TheVariants as entry
use Rattle.c_names.specs.Scope.{Scope, declare}
use Rattle.c_structs.specs.declared.Structs.{Structs}
use Rattle.c_structs.specs.Tags.{Parts, Ends, Integer, Struct, Tag, is_tag, tag_parts, with_tag, integers, structs, parts_of}
use Rattle.c_structs.specs.Under.{member_path, members_under, most_members, few}
use Rattle.c_structs.specs.Mirror.{kept, few_members, mirror_after, with_member_of, with_members_of, scopes_after}
use Rattle.c_structs.specs.Fits.{AreTyped, StructsKeepFitting, DepthsStay}

named_type : (integer : IntegerType) → IsType (named integer)
named_type word.Bool = Truth
named_type (word.Char sign) = Byte (is_signed sign)
named_type (word.Short sign) = Half (is_signed sign)
named_type (word.Int sign) = Single (is_signed sign)
named_type (word.Long sign) = Double (is_signed sign)
named_type word.Int8 = Byte true
named_type word.Int16 = Half true
named_type word.Int32 = Single true
named_type word.Int64 = Double true
named_type word.Uint8 = Byte false
named_type word.Uint16 = Half false
named_type word.Uint32 = Single false
named_type word.Uint64 = Double false

integers_typed : (t : IntType) (ds : List MemberDeclarator) (rest : Parts) → IsType t → AreTyped rest → AreTyped (integers t ds rest)
integers_typed t [] rest k h = h
integers_typed t (d ∷ ds) rest k h = (k, integers_typed t ds rest k h)

structs_typed : (inner : Parts) (xs : List Identifier) (rest : Parts) → AreTyped inner → AreTyped rest → AreTyped (structs inner xs rest)
structs_typed inner [] rest k h = h
structs_typed inner (x ∷ xs) rest k h = (k, structs_typed inner xs rest k h)

tag_typed : (tags : List Tag) (name : List ℕ) → All (λ (t : Tag). AreTyped t.1) tags → AreTyped (tag_parts tags name)
tag_typed [] name h = tt
tag_typed (t ∷ tags) name h =
    pick (bytes_eq name t.0) (All-head (λ (t : Tag). AreTyped t.1) t tags h) (tag_typed tags name (All-tail (λ (t : Tag). AreTyped t.1) t tags h))
  where
    pick : (b : Bool) → AreTyped t.1 → AreTyped (tag_parts tags name) → AreTyped (cond b t.1 (tag_parts tags name))
    pick true k g = k
    pick false k g = g

parts_typed : (tags : List Tag) (ms : List Member) → All (λ (t : Tag). AreTyped t.1) tags → AreTyped (parts_of tags ms)
parts_typed tags [] h = tt
parts_typed tags (Integers t ds ∷ ms) h = integers_typed (named t.integer) ds (parts_of tags ms) (named_type t.integer) (parts_typed tags ms h)
parts_typed tags (Nested p tag xs ∷ ms) h = structs_typed (tag_parts tags tag.name) xs (parts_of tags ms) (tag_typed tags tag.name h) (parts_typed tags ms h)

put_typed : (tags : List Tag) (name : List ℕ) (p : Parts) → All (λ (t : Tag). AreTyped t.1) tags → AreTyped p → All (λ (t : Tag). AreTyped t.1) (with_tag tags name p)
put_typed tags name p h k = pick (is_tag tags name)
  where
    pick : (b : Bool) → All (λ (t : Tag). AreTyped t.1) (cond b tags (tags ++ (name, p) ∷ []))
    pick true = h
    pick false = All-append (λ (t : Tag). AreTyped t.1) tags ((name, p) ∷ []) h (All-cons (λ (t : Tag). AreTyped t.1) (name, p) [] k (All-nil (λ (t : Tag). AreTyped t.1)))

members_fit : (whole : List ℕ) (p : Parts) → AreTyped p → All FitsMember (members_under whole p)
members_fit whole Ends h = All-nil FitsMember
members_fit whole (Integer x t n rest) h = All-cons FitsMember _ (members_under whole rest) (record { type = h.0 }) (members_fit whole rest h.1)
members_fit whole (Struct x inner rest) h =
    All-cons FitsMember _ (members_under (member_path whole x.name) inner ++ members_under whole rest) (record { type = tt })
    (All-append FitsMember (members_under (member_path whole x.name) inner) (members_under whole rest) (members_fit (member_path whole x.name) inner h.0) (members_fit whole rest h.1))

kept_fit : (ms : List AMember) → All FitsMember ms → All FitsMember (kept (few ms))
kept_fit ms h = pick (nat_le (length ms) most_members)
  where
    pick : (b : Bool) → All FitsMember (kept (cond b (Some ms) None))
    pick true = h
    pick false = All-nil FitsMember

kept_few : (ms : List AMember) → length (kept (few ms)) ≤ 65536
kept_few ms = pick (nat_le (length ms) most_members) refl
  where
    pick : (b : Bool) → nat_le (length ms) most_members ≡ b → length (kept (cond b (Some ms) None)) ≤ 65536
    pick true h = grind (arith, nat_tests)
    pick false h = omega arith

mirror_fits : (s : Structs) (tag name : Identifier) (m : Option MirrorDecl) → All (λ (t : Tag). AreTyped t.1) s.tags → All FitsMember (members_of m) → length (members_of m) ≤ 65536 →
    All FitsMember (members_of (mirror_after s tag name m)) × (length (members_of (mirror_after s tag name m)) ≤ 65536)
mirror_fits s tag name None h k l =
    let ms : List AMember = members_under name.name (tag_parts s.tags tag.name) in
    (kept_fit ms (members_fit name.name (tag_parts s.tags tag.name) (tag_typed s.tags tag.name h)), kept_few ms)
mirror_fits s tag name (Some m) h k l = (k, l)

pub structs_keep_fitting : StructsKeepFitting
structs_keep_fitting = record {
  first = record { tags = All-nil (λ (t : Tag). AreTyped t.1); members = All-nil FitsMember; few = omega arith };
  struct_after = λ s tag ms h. record { tags = put_typed s.tags tag.name (parts_of s.tags ms) h.tags (parts_typed s.tags ms h.tags); members = h.members; few = h.few };
  mirror_after = λ s tag name h. record {
    tags = h.tags;
    members = (mirror_fits s tag name s.mirror h.tags h.members h.few).0;
    few = (mirror_fits s tag name s.mirror h.tags h.members h.few).1;
  };
}

declare_depth : (env : List Scope) (name : List ℕ) (e : Entry) → length (declare env name e) ≡ length env
declare_depth [] name e = refl
declare_depth (scope ∷ env) name e = refl

member_depth : (env : List Scope) (i : ℕ) (m : AMember) (t : Option IntType) → length (with_member_of env i m t) ≡ length env
member_depth env i m None = refl
member_depth env i m (Some t) = declare_depth env m.path _

members_depth : (env : List Scope) (i : ℕ) (ms : List AMember) → length (with_members_of env i ms) ≡ length env
members_depth env i [] = refl
members_depth env i (m ∷ ms) = members_depth (with_member_of env i m m.ty) (i + 1) ms ∙ member_depth env i m m.ty

after_depth : (env : List Scope) (s : Structs) (tag name : Identifier) (m : Option MirrorDecl) → length (scopes_after env s tag name m) ≡ length env
after_depth env s tag name None = members_depth (declare env name.name entry.Mirror) 0 (kept (few_members s tag name)) ∙ declare_depth env name.name entry.Mirror
after_depth env s tag name (Some m) = refl

pub depths_stay : DepthsStay
depths_stay = record {
  mirror_depth = λ env s tag name. after_depth env s tag name s.mirror;
  bound_depth = λ env name. declare_depth env name.name _;
}
