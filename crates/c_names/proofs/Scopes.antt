-- Looking a name up, scope by scope.
use Rattle.std.proofs.Common.{◌≡◌, ℕ, suc, ◌<◌, ◌≤◌, ◌-◌, arith, List, [], ◌∷◌, length, take, map, get_or, Bool, true, false, refl, sym, ap, ◌∙◌}
use Rattle.std.specs.Prelude.{reverse, cond, Option, Some, None, bytes_eq, String, string_bytes, string_eq}
use Rattle.std.specs.Map.{lookup as lookup_entries}
use Rattle.std.specs.HashMap.{HashMap, get_by}
use Rattle.std.proofs.lemmas.List.{reverse-append, map-append}
use Rattle.std.proofs.Math.Seq.{take-suc, take-length}
use Rattle.c_names.specs.declared.scope.Entry.{Entry}
use Rattle.c_names.specs.Scope.{Scope, find_in, or_else, lookup, put, declare, declared_in}
use Rattle.indexmap.specs.IndexMap.{insert_entry}
use Rattle.c_names.specs.View.{names_of}

pub find_in_entries : {Y : Type 0} (es : List (String Y × Entry)) (n : List ℕ) →
    find_in (map (λ p. (string_bytes p.0, p.1)) es) n ≡ lookup_entries (λ k. bytes_eq n (string_bytes k)) es
find_in_entries [] n = refl
find_in_entries (e ∷ es) n = ap (λ o. cond (bytes_eq n (string_bytes e.0)) (Some e.1) o) (find_in_entries es n)

-- one more scope inside
pub lookup_inside : {X : Type 0} (f : X → Scope) (xs : List X) (k : ℕ) (d : X) (n : List ℕ) → k < length xs →
    lookup (reverse (map f (take (suc k) xs))) n ≡ or_else (find_in (f (get_or xs k d)) n) (lookup (reverse (map f (take k xs))) n)
lookup_inside f xs k d n h =
    ap (λ l. lookup (reverse (map f l)) n) (take-suc xs k d h)
    ∙ ap (λ l. lookup (reverse l) n) (map-append f (take k xs) (get_or xs k d ∷ []))
    ∙ ap (λ l. lookup l n) (reverse-append (map f (take k xs)) (f (get_or xs k d) ∷ []))

-- a turn of the walk from the innermost scope outward
pub lookup_turn : {Y S : Type 0} (xs : List (HashMap (String Y) Entry S)) (at : ℕ) (m : HashMap (String Y) Entry S) (n t : List ℕ) (o : Option Entry) →
    0 < at → at ≤ length xs → m ≡ get_or xs (at - 1) m → t ≡ n → o ≡ get_by (λ k. bytes_eq t (string_bytes k)) m →
    lookup (reverse (map names_of (take at xs))) n ≡ or_else o (lookup (reverse (map names_of (take (at - 1) xs))) n)
lookup_turn xs at m n t o pos within is_m is_t is_o =
    let e : at ≡ suc (at - 1) = omega arith in
    let rest : Option Entry = lookup (reverse (map names_of (take (at - 1) xs))) n in
    ap (λ k. lookup (reverse (map names_of (take k xs))) n) e
    ∙ lookup_inside names_of xs (at - 1) m n (omega arith)
    ∙ ap (λ x. or_else (find_in (names_of x) n) rest) (sym is_m)
    ∙ ap (λ x. or_else x rest) (find_in_entries m.entries n ∙ ap (λ u. lookup_entries (λ k. bytes_eq u (string_bytes k)) m.entries) (sym is_t) ∙ sym is_o)

pub find_inner_is : {Y S : Type 0} (m : HashMap (String Y) Entry S) (outer env : List Scope) (n t : List ℕ) (o : Option Entry) →
    names_of m ∷ outer ≡ env → t ≡ n → o ≡ get_by (λ k. bytes_eq t (string_bytes k)) m → o ≡ declared_in env n
find_inner_is m outer env n t o is is_t is_o =
    is_o
    ∙ ap (λ u. lookup_entries (λ k. bytes_eq u (string_bytes k)) m.entries) is_t
    ∙ sym (find_in_entries m.entries n)
    ∙ ap (λ s. declared_in s n) is

put_entries : {Y : Type 0} (es : List (String Y × Entry)) (k : String Y) (v : Entry) →
    map (λ p. (string_bytes p.0, p.1)) (insert_entry string_eq es k v) ≡ put (string_bytes k) v (map (λ p. (string_bytes p.0, p.1)) es)
put_entries [] k v = refl
put_entries (e ∷ es) k v = pick (string_eq k e.0) (put_entries es k v)
  where
    pick : (b : Bool) → map (λ p. (string_bytes p.0, p.1)) (insert_entry string_eq es k v) ≡ put (string_bytes k) v (map (λ p. (string_bytes p.0, p.1)) es) → map (λ p. (string_bytes p.0, p.1)) (cond b ((e.0, v) ∷ es) (e ∷ insert_entry string_eq es k v)) ≡ cond b ((string_bytes e.0, v) ∷ map (λ p. (string_bytes p.0, p.1)) es) ((string_bytes e.0, e.1) ∷ put (string_bytes k) v (map (λ p. (string_bytes p.0, p.1)) es))
    pick true h = refl
    pick false h = ap (λ s. (string_bytes e.0, e.1) ∷ s) h

pub declare_is : {Y S : Type 0} (m new : HashMap (String Y) Entry S) (outer env : List Scope) (k : String Y) (n t : List ℕ) (v : Entry) →
    names_of m ∷ outer ≡ env → t ≡ n → string_bytes k ≡ t → new.entries ≡ insert_entry string_eq m.entries k v → names_of new ∷ outer ≡ declare env n v
declare_is m new outer env k n t v is is_t is_k is_new =
    ap (λ es. map (λ p. (string_bytes p.0, p.1)) es ∷ outer) is_new
    ∙ ap (λ s. s ∷ outer) (put_entries m.entries k v)
    ∙ ap (λ u. put u v (names_of m) ∷ outer) (is_k ∙ is_t)
    ∙ ap (λ s. declare s n v) is

-- a name that the innermost scope lacks
pub find_start : {Y S : Type 0} (inner : Scope) (maps : List (HashMap (String Y) Entry S)) (env : List Scope) (n : List ℕ) (k : ℕ) →
    inner ∷ reverse (map names_of maps) ≡ env → None ≡ declared_in env n → k ≡ length maps → lookup env n ≡ lookup (reverse (map names_of (take k maps))) n
find_start inner maps env n k is none is_k =
    ap (λ s. lookup s n) (sym is)
    ∙ ap (λ o. or_else o (lookup (reverse (map names_of maps)) n)) (ap (λ s. declared_in s n) is ∙ sym none)
    ∙ ap (λ l. lookup (reverse (map names_of l)) n) (sym (take-length maps) ∙ ap (λ j. take j maps) (sym is_k))

pub find_here : (env : List Scope) (n : List ℕ) (e : Entry) → Some e ≡ declared_in env n → Some e ≡ lookup env n
find_here [] n e h = cc
find_here (inner ∷ outer) n e h = ap (λ o. or_else o (lookup outer n)) h
