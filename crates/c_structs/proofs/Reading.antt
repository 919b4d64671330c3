-- The members of a struct, as they are read and as they are declared.
use Rattle.std.proofs.Common.{◌≡◌, ℕ, ◌+◌, ◌<◌, ◌≤◌, List, [], ◌∷◌, ◌++◌, length, drop, get_or, refl, sym, ap, ◌∙◌}
use Rattle.std.specs.Prelude.{Option}
use Rattle.std.proofs.lemmas.List.{drop_all}
use Rattle.c_tree.specs.declared.names.Identifier.{Identifier}
use Rattle.c_tree.specs.declared.declarations.Member.{Member}
use Rattle.c_tree.specs.declared.declarations.Member.TheVariants.{Integers, Structs}
use Rattle.c_tree.specs.declared.declarations.MemberDeclarator.{MemberDeclarator}
use Rattle.joint_ir.specs.declared.ctype.IntType.{IntType}
use Rattle.c_words.specs.declared.notes.Notes.{Notes}
use Rattle.c_words.specs.Types.{named}
use Rattle.c_names.specs.Scope.{Scope}
use Rattle.c_constants.specs.Constants.{told}
use Rattle.c_constants.proofs.Telling.{told_then}
use Rattle.c_structs.specs.declared.tags.Part.{Part}
use Rattle.c_structs.specs.declared.tags.Shape.TheVariants as shape
use Rattle.c_structs.specs.declared.members.Reading.{Reading}
use Rattle.c_structs.specs.Tags.{Parts, Ends, Tag, item_name, item_length, integers, structs, parts_of, items_names, structs_names, member_names, item_offences, items_offences, names_offences, again_offences, length_offences, member_offences, members_offences}
use Rattle.c_structs.specs.Lists.{tag_number, inner_of, shaped_onto, onto}
use Rattle.c_structs.specs.Readings.{nothing_read, with_part, with_item, with_items, with_structs, with_member, with_members, ReadsMember, AreParts}
use Rattle.c_structs.specs.Turns.{SoFar}
use Rattle.c_structs.proofs.Tagging.{inner_found}
use Rattle.c_structs.proofs.Turning.{one_more}

items_read_names : (r : Reading) (t : IntType) (ds : List MemberDeclarator) → items_names r.names ds ≡ (with_items r t ds).names
items_read_names r t [] = refl
items_read_names r t (d ∷ ds) = items_read_names (with_item r t d) t ds

structs_read_names : (r : Reading) (i : Option ℕ) (xs : List Identifier) → structs_names r.names xs ≡ (with_structs r i xs).names
structs_read_names r i [] = refl
structs_read_names r i (x ∷ xs) = structs_read_names (with_part r x (shape.Struct i)) i xs

member_read_names : (tags : List Tag) (r : Reading) (m : Member) → member_names r.names m ≡ (with_member tags r m).names
member_read_names tags r (Integers t ds) = items_read_names r (named t.integer) ds
member_read_names tags r (Structs p tag xs) = structs_read_names r (tag_number tags tag.name) xs

onto-append : (tags : List Tag) (ps qs : List Part) (rest : Parts) → onto tags (ps ++ qs) rest ≡ onto tags ps (onto tags qs rest)
onto-append tags [] qs rest = refl
onto-append tags (p ∷ ps) qs rest = ap (shaped_onto tags p.name p.shape) (onto-append tags ps qs rest)

items_onto : (tags : List Tag) (r : Reading) (t : IntType) (ds : List MemberDeclarator) (rest : Parts) → onto tags (with_items r t ds).parts rest ≡ onto tags r.parts (integers t ds rest)
items_onto tags r t [] rest = refl
items_onto tags r t (d ∷ ds) rest =
    items_onto tags (with_item r t d) t ds rest ∙ onto-append tags r.parts ((record { name = item_name d; shape = shape.Integer t (item_length d) }) ∷ []) (integers t ds rest)

structs_onto : (tags : List Tag) (r : Reading) (i : Option ℕ) (xs : List Identifier) (rest : Parts) → onto tags (with_structs r i xs).parts rest ≡ onto tags r.parts (structs (inner_of tags i) xs rest)
structs_onto tags r i [] rest = refl
structs_onto tags r i (x ∷ xs) rest =
    structs_onto tags (with_part r x (shape.Struct i)) i xs rest ∙ onto-append tags r.parts ((record { name = x; shape = shape.Struct i }) ∷ []) (structs (inner_of tags i) xs rest)

members_onto : (tags : List Tag) (r : Reading) (ms : List Member) → onto tags (with_members tags r ms).parts Ends ≡ onto tags r.parts (parts_of tags ms)
members_onto tags r [] = refl
members_onto tags r (Integers t ds ∷ ms) = members_onto tags (with_items r (named t.integer) ds) ms ∙ items_onto tags r (named t.integer) ds (parts_of tags ms)
members_onto tags r (Structs p tag xs ∷ ms) =
    members_onto tags (with_structs r (tag_number tags tag.name) xs) ms
    ∙ structs_onto tags r (tag_number tags tag.name) xs (parts_of tags ms)
    ∙ ap (λ inner. onto tags r.parts (structs inner xs (parts_of tags ms))) (inner_found tags tag.name)

pub items_next : (env : List Scope) (t : IntType) (ds : List MemberDeclarator) (i : ℕ) (d : MemberDeclarator) (old now new : Notes) (before after later : Reading) →
    i < length ds → d ≡ get_or ds i d → SoFar (λ r es. with_items r t es) (λ r es. items_offences env r.names es) old now before after ds i →
    later ≡ with_item after t d → new ≡ told now (item_offences env after.names d) → SoFar (λ r es. with_items r t es) (λ r es. items_offences env r.names es) old new before later ds (i + 1)
items_next env t =
    one_more (λ r d. with_item r t d) (λ r es. with_items r t es) (λ r d. item_offences env r.names d) (λ r es. items_offences env r.names es) (λ r x xs. refl) (λ r x xs. refl)

pub names_next : (o : Option ℕ) (xs : List Identifier) (i : ℕ) (x : Identifier) (old now new : Notes) (before after later : Reading) →
    i < length xs → x ≡ get_or xs i x → SoFar (λ r ys. with_structs r o ys) (λ r ys. names_offences r.names ys) old now before after xs i →
    later ≡ with_part after x (shape.Struct o) → new ≡ told now (again_offences after.names x) → SoFar (λ r ys. with_structs r o ys) (λ r ys. names_offences r.names ys) old new before later xs (i + 1)
names_next o =
    one_more (λ r x. with_part r x (shape.Struct o)) (λ r ys. with_structs r o ys) (λ r x. again_offences r.names x) (λ r ys. names_offences r.names ys) (λ r x xs. refl) (λ r x xs. refl)

pub members_next : (env : List Scope) (tags : List Tag) (ms : List Member) (i : ℕ) (m : Member) (old now new : Notes) (before after later : Reading) →
    i < length ms → m ≡ get_or ms i m → SoFar (with_members tags) (λ r ns. members_offences env tags r.names ns) old now before after ms i →
    ReadsMember env tags now new m after later → SoFar (with_members tags) (λ r ns. members_offences env tags r.names ns) old new before later ms (i + 1)
members_next env tags ms i m old now new before after later lt is h k =
    one_more (with_member tags) (with_members tags) (λ r m. member_offences env tags r.names m) (λ r ns. members_offences env tags r.names ns) (λ r x xs. refl)
    (λ r x xs. ap (λ names. member_offences env tags r.names x ++ members_offences env tags names xs) (member_read_names tags r x)) ms i m old now new before after later lt is h k.reading k.notes

pub item_told : (env : List Scope) (names : List (List ℕ)) (d : MemberDeclarator) (x : Identifier) (old mid new : Notes) → x ≡ item_name d →
    mid ≡ told old (length_offences env d) → new ≡ told mid (again_offences names x) → new ≡ told old (item_offences env names d)
item_told env names d x old mid new is h g =
    told_then old mid new (length_offences env d) (again_offences names (item_name d)) h (g ∙ ap (λ y. told mid (again_offences names y)) is)

-- all members were read
pub all_read : (env : List Scope) (tags : List Tag) (ms : List Member) (i : ℕ) (old new : Notes) (after : Reading) → length ms ≤ i →
    SoFar (with_members tags) (λ r ns. members_offences env tags r.names ns) old new nothing_read after ms i → AreParts env tags old new ms after.parts
all_read env tags ms i old new after le h =
    let none : drop i ms ≡ [] = drop_all i ms le in
    let read : with_members tags nothing_read ms ≡ after = h.known_so ∙ ap (with_members tags after) none in
    record {
      parts = ap (λ (r : Reading). onto tags r.parts Ends) (sym read) ∙ members_onto tags nothing_read ms;
      notes = sym (h.notes_so ∙ ap (λ ns. told new (members_offences env tags after.names ns)) none);
    }
