-- The names of a map, one by one.
use Rattle.std.proofs.Common.{◌≡◌, ℕ, List, [], ◌∷◌, map, Bool, true, false, refl, sym, ap, ◌∙◌}
use Rattle.std.specs.Prelude.{cond, Option, Some, bytes_eq, String, string_bytes, string_eq}
use Rattle.std.specs.Map.{lookup as lookup_entries}
use Rattle.std.specs.HashMap.{HashMap, get_by}
use Rattle.indexmap.specs.IndexMap.{insert_entry}
use Rattle.name_table.specs.Tables.{find_in, put}
use Rattle.name_table.specs.View.{names_in}

find_in_entries : {Y V : Type 0} (es : List (String Y × V)) (n : List ℕ) →
    find_in (map (λ p. (string_bytes p.0, p.1)) es) n ≡ lookup_entries (λ k. bytes_eq n (string_bytes k)) es
find_in_entries [] n = refl
find_in_entries (e ∷ es) n = ap (λ o. cond (bytes_eq n (string_bytes e.0)) (Some e.1) o) (find_in_entries es n)

put_entries : {Y V : Type 0} (es : List (String Y × V)) (k : String Y) (v : V) →
    map (λ p. (string_bytes p.0, p.1)) (insert_entry string_eq es k v) ≡ put (string_bytes k) v (map (λ p. (string_bytes p.0, p.1)) es)
put_entries [] k v = refl
put_entries (e ∷ es) k v = pick (string_eq k e.0) (put_entries es k v)
  where
    pick : (b : Bool) → map (λ p. (string_bytes p.0, p.1)) (insert_entry string_eq es k v) ≡ put (string_bytes k) v (map (λ p. (string_bytes p.0, p.1)) es) → map (λ p. (string_bytes p.0, p.1)) (cond b ((e.0, v) ∷ es) (e ∷ insert_entry string_eq es k v)) ≡ cond b ((string_bytes e.0, v) ∷ map (λ p. (string_bytes p.0, p.1)) es) ((string_bytes e.0, e.1) ∷ put (string_bytes k) v (map (λ p. (string_bytes p.0, p.1)) es))
    pick true h = refl
    pick false h = ap (λ s. (string_bytes e.0, e.1) ∷ s) h

pub find_is : {Y V S : Type 0} (m : HashMap (String Y) V S) (names : List (List ℕ × V)) (n t : List ℕ) (o : Option V) →
    names_in m ≡ names → t ≡ n → o ≡ get_by (λ k. bytes_eq t (string_bytes k)) m → o ≡ find_in names n
find_is m names n t o is is_t is_o =
    is_o
    ∙ ap (λ u. lookup_entries (λ k. bytes_eq u (string_bytes k)) m.entries) is_t
    ∙ sym (find_in_entries m.entries n)
    ∙ ap (λ s. find_in s n) is

pub put_is : {Y V S : Type 0} (m new : HashMap (String Y) V S) (names : List (List ℕ × V)) (k : String Y) (n t : List ℕ) (v : V) →
    names_in m ≡ names → t ≡ n → string_bytes k ≡ t → new.entries ≡ insert_entry string_eq m.entries k v → names_in new ≡ put n v names
put_is m new names k n t v is is_t is_k is_new =
    ap (λ es. map (λ p. (string_bytes p.0, p.1)) es) is_new
    ∙ put_entries m.entries k v
    ∙ ap (λ u. put u v (names_in m)) (is_k ∙ is_t)
    ∙ ap (λ s. put n v s) is
