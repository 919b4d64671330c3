-- Names and tags as they are kept.
use Rattle.std.proofs.Common.{◌≡◌, ℕ, zero, suc, ◌+◌, ◌<◌, ◌≤◌, List, [], ◌∷◌, ◌++◌, map, length, Bool, true, false, not, ◌||◌, is_some, slice_get, position, find, refl, sym, ap, ◌∙◌, arith, append_assoc, append-nil}
use Rattle.std.specs.Prelude.{cond, nat_lt, bytes_eq, Option, Some, None, String, string_bytes, string_eq}
use Rattle.std.specs.List.{list_any, position_or_len}
use Rattle.std.specs.HashMap.{HashMap}
use Rattle.std.specs.HashSet.{HashSet}
use Rattle.std.proofs.lemmas.Bool.Decides.{nat_tests}
use Rattle.std.proofs.lemmas.List.{map-append, length-map}
use Rattle.std.proofs.lemmas.List.Folds.{find_at}
use Rattle.std.proofs.lemmas.Option.{slice_get_past}
use Rattle.indexmap.specs.IndexMap.{insert_entry}
use Rattle.indexmap.specs.IndexSet.{insert_key, contains}
use Rattle.c_structs.specs.declared.tags.Part.{Part}
use Rattle.c_structs.specs.Tags.{Ends, Tag, is_tag, tag_parts, with_tag, has_name, with_name}
use Rattle.c_structs.specs.Sets.{names_in}
use Rattle.c_structs.specs.Lists.{TagList, lists_of, tag_number, parts_in, inner_of, onto, known_tags}

not_not : (b : Bool) → not (not b) ≡ b
not_not true = refl
not_not false = refl

any_names : {Y : Type 0} (ks : List (String Y)) (k : String Y) → list_any (string_eq k) ks ≡ has_name (map string_bytes ks) (string_bytes k)
any_names [] k = refl
any_names (e ∷ ks) k = ap (λ b. string_eq k e || b) (any_names ks k)

pub name_was : {Y S : Type 0} (s : HashSet (String Y) S) (k : String Y) (names : List (List ℕ)) (n t : List ℕ) (b : Bool) →
    names_in s ≡ names → t ≡ n → string_bytes k ≡ t → b ≡ not (contains string_eq s k) → not b ≡ has_name names n
name_was s k names n t b is is_t is_k is_b =
    ap not is_b ∙ not_not (contains string_eq s k)
    ∙ any_names s.keys k ∙ ap (has_name (map string_bytes s.keys)) (is_k ∙ is_t) ∙ ap (λ l. has_name l n) is

pub names_with : {Y S : Type 0} (s new : HashSet (String Y) S) (k : String Y) (names : List (List ℕ)) (n t : List ℕ) →
    names_in s ≡ names → t ≡ n → string_bytes k ≡ t → new.keys ≡ insert_key string_eq s.keys k → names_in new ≡ with_name names n
names_with s new k names n t is is_t is_k is_new =
    ap (map string_bytes) is_new
    ∙ pick (list_any (string_eq k) s.keys)
    ∙ ap (λ b. cond b (map string_bytes s.keys) (map string_bytes s.keys ++ string_bytes k ∷ [])) (any_names s.keys k)
    ∙ ap (with_name (map string_bytes s.keys)) (is_k ∙ is_t) ∙ ap (λ l. with_name l n) is
  where
    pick : (b : Bool) → map string_bytes (cond b s.keys (s.keys ++ k ∷ [])) ≡ cond b (map string_bytes s.keys) (map string_bytes s.keys ++ string_bytes k ∷ [])
    pick true = refl
    pick false = map-append string_bytes s.keys (k ∷ [])

-- the tags that lists declare, with one more
pub known_tags-push : (tags : List Tag) (ls : List TagList) (l : TagList) → known_tags tags (ls ++ l ∷ []) ≡ known_tags tags ls ++ (l.0, onto (known_tags tags ls) l.1 Ends) ∷ []
known_tags-push tags [] l = refl
known_tags-push tags (k ∷ ls) l = known_tags-push (tags ++ (k.0, onto tags k.1 Ends) ∷ []) ls l

-- their names
known_names : (tags : List Tag) (ls : List TagList) → map (λ (t : Tag). t.0) (known_tags tags ls) ≡ map (λ (t : Tag). t.0) tags ++ map (λ (l : TagList). l.0) ls
known_names tags [] = sym (append-nil (map (λ (t : Tag). t.0) tags))
known_names tags (l ∷ ls) =
    let new : Tag = (l.0, onto tags l.1 Ends) in
    known_names (tags ++ new ∷ []) ls
    ∙ ap (λ q. q ++ map (λ (l : TagList). l.0) ls) (map-append (λ (t : Tag). t.0) tags (new ∷ []))
    ∙ append_assoc (map (λ (t : Tag). t.0) tags) (l.0 ∷ []) (map (λ (l : TagList). l.0) ls)

position_or_len_map : {X Z : Type 0} (p : Z → Bool) (g : X → Z) (xs : List X) → position_or_len p (map g xs) ≡ position_or_len (λ x. p (g x)) xs
position_or_len_map p g [] = refl
position_or_len_map p g (x ∷ xs) = ap (λ n. cond (not (p (g x))) (1 + n) 0) (position_or_len_map p g xs)

position_map : {X Z : Type 0} (p : Z → Bool) (g : X → Z) (xs : List X) → position p (map g xs) ≡ position (λ x. p (g x)) xs
position_map p g xs =
    ap (λ n. cond (nat_lt n (length (map g xs))) (Some n) None) (position_or_len_map p g xs)
    ∙ ap (λ n. cond (nat_lt (position_or_len (λ x. p (g x)) xs) n) (Some (position_or_len (λ x. p (g x)) xs)) None) (length-map xs g)

abbrev kept_list : {Y : Type 0} → String Y × List Part → TagList
kept_list e = (string_bytes e.0, e.1)

abbrev key_of : {Y : Type 0} → String Y × List Part → String Y
key_of e = e.0

list_names : {Y : Type 0} (es : List (String Y × List Part)) → map (λ (l : TagList). l.0) (map kept_list es) ≡ map string_bytes (map key_of es)
list_names [] = refl
list_names (e ∷ es) = ap (λ q. string_bytes e.0 ∷ q) (list_names es)

-- a tag's place among the keys
pub find_is : {Y S : Type 0} (m : HashMap (String Y) (List Part) S) (tags : List Tag) (n t : List ℕ) (o : Option ℕ) →
    known_tags [] (lists_of m) ≡ tags → t ≡ n → o ≡ position (λ k. bytes_eq t (string_bytes k)) (map key_of m.entries) → o ≡ tag_number tags n
find_is m tags n t o is is_t is_o =
    is_o
    ∙ ap (λ u. position (λ k. bytes_eq u (string_bytes k)) (map key_of m.entries)) is_t
    ∙ sym (position_map (bytes_eq n) string_bytes (map key_of m.entries))
    ∙ ap (position (bytes_eq n)) (sym (known_names [] (lists_of m) ∙ list_names m.entries))
    ∙ position_map (bytes_eq n) (λ (t : Tag). t.0) (known_tags [] (lists_of m))
    ∙ ap (λ ts. tag_number ts n) is

found : (tags : List Tag) (n : List ℕ) → parts_in (find (λ t. bytes_eq n t.0) tags) ≡ tag_parts tags n
found [] n = refl
found (t ∷ tags) n = pick (bytes_eq n t.0) (found tags n)
  where
    pick : (b : Bool) → parts_in (find (λ t. bytes_eq n t.0) tags) ≡ tag_parts tags n → parts_in (cond b (Some t) (find (λ t. bytes_eq n t.0) tags)) ≡ cond b t.1 (tag_parts tags n)
    pick true h = refl
    pick false h = h

is_found : (tags : List Tag) (n : List ℕ) → is_some (find (λ t. bytes_eq n t.0) tags) ≡ is_tag tags n
is_found [] n = refl
is_found (t ∷ tags) n = pick (bytes_eq n t.0) (is_found tags n)
  where
    pick : (b : Bool) → is_some (find (λ t. bytes_eq n t.0) tags) ≡ is_tag tags n → is_some (cond b (Some t) (find (λ t. bytes_eq n t.0) tags)) ≡ cond b true (is_tag tags n)
    pick true h = refl
    pick false h = h

-- what stands at a tag's place
placed : {X : Type 0} (tags : List Tag) (i : ℕ) (f : Option Tag → X) (g : Option ℕ → X) → ((j : ℕ) → g (Some j) ≡ f (slice_get tags j)) → g None ≡ f None →
    g (cond (nat_lt i (length tags)) (Some i) None) ≡ f (slice_get tags i)
placed tags i f g some none = pick (nat_lt i (length tags)) refl
  where
    pick : (b : Bool) → nat_lt i (length tags) ≡ b → g (cond b (Some i) None) ≡ f (slice_get tags i)
    pick true h = some i
    pick false h =
        let le : length tags ≤ i = grind (arith, nat_tests) in
        none ∙ ap f (sym (slice_get_past tags i le))

pub inner_found : (tags : List Tag) (n : List ℕ) → inner_of tags (tag_number tags n) ≡ tag_parts tags n
inner_found tags n =
    placed tags (position_or_len (λ t. bytes_eq n t.0) tags) parts_in (inner_of tags) (λ j. refl) refl
    ∙ ap parts_in (sym (find_at (λ t. bytes_eq n t.0) tags)) ∙ found tags n

number_found : (tags : List Tag) (i : ℕ) → is_some (cond (nat_lt i (length tags)) (Some i) None) ≡ is_some (slice_get tags i)
number_found tags i = pick (nat_lt i (length tags)) refl
  where
    there : (ts : List Tag) (j : ℕ) → nat_lt j (length ts) ≡ true → is_some (slice_get ts j) ≡ true
    there [] j h = absurd (let le : j < 0 = grind (arith, nat_tests) in omega (arith, le))
    there (t ∷ ts) zero h = refl
    there (t ∷ ts) (suc j) h = there ts j (grind (arith, nat_tests))

    pick : (b : Bool) → nat_lt i (length tags) ≡ b → is_some (cond b (Some i) None) ≡ is_some (slice_get tags i)
    pick true h = sym (there tags i h)
    pick false h =
        let le : length tags ≤ i = grind (arith, nat_tests) in
        ap is_some (sym (slice_get_past tags i le))

pub has_is : (tags : List Tag) (n : List ℕ) (o : Option ℕ) → o ≡ tag_number tags n → is_some o ≡ is_tag tags n
has_is tags n o h =
    ap is_some h ∙ number_found tags (position_or_len (λ t. bytes_eq n t.0) tags)
    ∙ ap is_some (sym (find_at (λ t. bytes_eq n t.0) tags)) ∙ is_found tags n

any_tags : (tags : List Tag) (n : List ℕ) → is_tag tags n ≡ list_any (bytes_eq n) (map (λ (t : Tag). t.0) tags)
any_tags [] n = refl
any_tags (t ∷ tags) n = pick (bytes_eq n t.0) (any_tags tags n)
  where
    pick : (b : Bool) → is_tag tags n ≡ list_any (bytes_eq n) (map (λ (t : Tag). t.0) tags) → cond b true (is_tag tags n) ≡ (b || list_any (bytes_eq n) (map (λ (t : Tag). t.0) tags))
    pick true h = refl
    pick false h = h

neither : (a b : Bool) → (a || b) ≡ false → (a ≡ false) × (b ≡ false)
neither true b h = cc
neither false b h = (refl, h)

-- a key that isn't there yet
insert_last : {Y : Type 0} (es : List (String Y × List Part)) (k : String Y) (v : List Part) (n : List ℕ) → string_bytes k ≡ n → list_any (bytes_eq n) (map string_bytes (map key_of es)) ≡ false →
    map kept_list (insert_entry string_eq es k v) ≡ map kept_list es ++ (n, v) ∷ []
insert_last [] k v n is h = ap (λ u. (u, v) ∷ []) is
insert_last (e ∷ es) k v n is h =
    let both = neither (bytes_eq n (string_bytes e.0)) (list_any (bytes_eq n) (map string_bytes (map key_of es))) h in
    let other : string_eq k e.0 ≡ false = ap (λ u. bytes_eq u (string_bytes e.0)) is ∙ both.0 in
    ap (λ b. map kept_list (cond b ((e.0, v) ∷ es) (e ∷ insert_entry string_eq es k v))) other
    ∙ ap (λ q. (string_bytes e.0, e.1) ∷ q) (insert_last es k v n is both.1)

pub put_new : {Y S : Type 0} (m new : HashMap (String Y) (List Part) S) (tags : List Tag) (k : String Y) (v : List Part) (n t : List ℕ) →
    known_tags [] (lists_of m) ≡ tags → t ≡ n → string_bytes k ≡ t → false ≡ is_tag tags n → new.entries ≡ insert_entry string_eq m.entries k v →
    known_tags [] (lists_of new) ≡ with_tag tags n (onto tags v Ends)
put_new m new tags k v n t is is_t is_k none is_new =
    let names : map (λ (t : Tag). t.0) tags ≡ map string_bytes (map key_of m.entries) = ap (map (λ (t : Tag). t.0)) (sym is) ∙ known_names [] (lists_of m) ∙ list_names m.entries in
    let absent : list_any (bytes_eq n) (map string_bytes (map key_of m.entries)) ≡ false = ap (list_any (bytes_eq n)) (sym names) ∙ sym (any_tags tags n) ∙ sym none in
    ap (λ es. known_tags [] (map kept_list es)) is_new
    ∙ ap (known_tags []) (insert_last m.entries k v n (is_k ∙ is_t) absent)
    ∙ known_tags-push [] (lists_of m) (n, v)
    ∙ ap (λ ts. ts ++ (n, onto ts v Ends) ∷ []) is
    ∙ ap (λ b. cond b tags (tags ++ (n, onto tags v Ends) ∷ [])) none

pub members_found : {Y S : Type 0} (m : HashMap (String Y) (List Part) S) (tags : List Tag) (n t : List ℕ) (o : Option ℕ) →
    known_tags [] (lists_of m) ≡ tags → t ≡ n → o ≡ position (λ k. bytes_eq t (string_bytes k)) (map key_of m.entries) → inner_of (known_tags [] (lists_of m)) o ≡ tag_parts tags n
members_found m tags n t o is is_t is_o =
    ap (inner_of (known_tags [] (lists_of m))) (find_is m (known_tags [] (lists_of m)) n t o refl is_t is_o)
    ∙ inner_found (known_tags [] (lists_of m)) n ∙ ap (λ ts. tag_parts ts n) is
