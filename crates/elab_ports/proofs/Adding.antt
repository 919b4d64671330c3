-- Ports that are put one after another.
use Rattle.std.proofs.Common.{◌≡◌, ℕ, suc, ◌+◌, List, [], ◌∷◌, ◌++◌, map, length, refl, sym, ap, subst, ◌∙◌, arith, append_assoc}
use Rattle.std.specs.Prelude.{Bool, true, false, cond, Option, Some, None, bytes_eq}
use Rattle.std.specs.Option.{option_or}
use Rattle.std.proofs.lemmas.List.{append-nil, map-append}
use Rattle.v_tree.specs.declared.item.DirectionKind.{DirectionKind}
use Rattle.name_table.specs.Tables.{find_in}
use Rattle.elab_ports.specs.declared.ports.Ports.{Ports}
use Rattle.elab_ports.specs.Ports.{direction_of, place_from}
use Rattle.elab_ports.specs.Making.{IsPorts, Adds}
use Rattle.elab_ports.specs.Keeping.{Keeps}

abbrev Rows : Type 0
Rows = List (List ℕ × Option DirectionKind)

place_from-append : (xs ys : Rows) (n : ℕ) (name : List ℕ) → place_from n (xs ++ ys) name ≡ option_or (place_from n xs name) (place_from (n + length xs) ys name)
place_from-append [] ys n name = let e : n ≡ n + 0 = omega arith in ap (λ k. place_from k ys name) e
place_from-append (x ∷ xs) ys n name =
    let e : (n + 1) + length xs ≡ n + length (x ∷ xs) = omega arith in
    by_test (bytes_eq name x.0) (place_from-append xs ys (n + 1) name ∙ ap (λ k. option_or (place_from (n + 1) xs name) (place_from k ys name)) e)
  where
    by_test : (b : Bool) → place_from (n + 1) (xs ++ ys) name ≡ option_or (place_from (n + 1) xs name) (place_from (n + length (x ∷ xs)) ys name) →
        cond b (Some n) (place_from (n + 1) (xs ++ ys) name) ≡ option_or (cond b (Some n) (place_from (n + 1) xs name)) (place_from (n + length (x ∷ xs)) ys name)
    by_test true g = refl
    by_test false g = g

length_mapped : {X Y : Type 0} (f : X → Y) (xs : List X) → length (map f xs) ≡ length xs
length_mapped f [] = refl
length_mapped f (x ∷ xs) = ap suc (length_mapped f xs)

-- one more port
pub adds_one : (old new : Ports) (name : List ℕ) (direction : Option DirectionKind) (at : ℕ) → at ≡ length old.directions → Keeps old.places new.places ((name, at) ∷ []) →
    new.directions ≡ old.directions ++ direction ∷ [] → Adds old new ((name, direction) ∷ [])
adds_one old new name direction at is_at h g = record {
  longer = λ list known. record {
    directions = g ∙ ap (λ l. l ++ direction ∷ []) known.directions ∙ sym (map-append direction_of list ((name, direction) ∷ []));
    places = λ x.
        h x ∙ ap (λ o. option_or o (find_in ((name, at) ∷ []) x)) (known.places x)
        ∙ ap (λ k. option_or (place_from 0 list x) (find_in ((name, k) ∷ []) x)) (is_at ∙ ap length known.directions ∙ length_mapped direction_of list ∙ (let e : length list ≡ 0 + length list = omega arith in e))
        ∙ sym (place_from-append list ((name, direction) ∷ []) 0 x);
  };
}

pub adds_none : (p : Ports) → Adds p p []
adds_none p = record { longer = λ list known. subst (λ l. IsPorts l p) (sym (append-nil list)) known }

pub adds_then : (a b c : Ports) (done more whole : Rows) → whole ≡ done ++ more → Adds a b done → Adds b c more → Adds a c whole
adds_then a b c done more whole is h g = record {
  longer = λ list known. subst (λ l. IsPorts l c) (append_assoc list done more ∙ ap (λ l. list ++ l) (sym is)) (g.longer (list ++ done) (h.longer list known));
}

pub none_yet : (p : Ports) → p.directions ≡ [] → p.places ≡ [] → IsPorts [] p
none_yet p d q = record { directions = d; places = λ name. ap (λ t. find_in t name) q }
