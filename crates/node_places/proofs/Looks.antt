-- What a weave makes of looks at places, and that this is what it makes of looks at tokens.
use Rattle.std.proofs.Common.{◌≡◌, ℕ, suc, zero, ◌-◌, Bool, true, false, cond, List, [], ◌∷◌, ◌++◌, map, reverse, take, drop, unwrap_or, option_map, refl, sym, ◌∙◌, ap}
use Rattle.std.proofs.lemmas.List.{reverse-append, take-map, drop-map, map-append}
use Rattle.std.specs.Option.{option_or}
use Rattle.std.specs.declared.option.Option.{Option}
use Rattle.std.specs.declared.option.Option.TheVariants.{None, Some}
use Rattle.src_text.specs.declared.refusal.Place.{Place}
use Rattle.node_depth.specs.declared.weave.Weave.{Weave}
use Rattle.node_depth.specs.Nodes as numbers
use Rattle.node_depth.specs.Weaves.{Look, first_of, trees_of, under, look_of, weaves}
use Rattle.src_text.specs.Trees.{Trees, none, also, one}
use Rattle.node_places.proofs.Maps.{map_trees, also_map}

-- A value: the place of its first token, where it has one, and its trees.
pub record PlaceLook : Type 0 where
  pub first : Option Place
  pub trees : Trees

-- where the first of a list begins
abbrev pub first_in : {A : Type 0} → (A → Place) → List A → Option Place
first_in start [] = None
first_in start (x ∷ xs) = Some (start x)

abbrev pub first_place : List PlaceLook → Option Place
first_place [] = None
first_place (l ∷ ls) = option_or l.first (first_place ls)

abbrev pub place_trees : List PlaceLook → Trees
place_trees [] = none
place_trees (l ∷ ls) = also l.trees (place_trees ls)

abbrev pub under_place : ℕ → Place → Trees → Trees
under_place zero p t = t
under_place (suc n) p t = under_place n p (one p t)

-- a value that is made of other values, and one that is made of a token
abbrev pub of_values : (takes nodes : ℕ) → Weave
of_values takes nodes = record { takes = takes; nodes = nodes; own = false }

abbrev pub of_token : (nodes : ℕ) → Weave
of_token nodes = record { takes = 0; nodes = nodes; own = true }

-- the value of an action right after the token at `place`
abbrev pub placed_look : (nothing : Place) → Weave → (place : Place) → List PlaceLook → PlaceLook
placed_look nothing w place parts =
    let first = cond w.own (Some place) (first_place parts) in
    record { first = first; trees = under_place w.nodes (unwrap_or first nothing) (place_trees parts) }

abbrev pub placed_weaves : (nothing : Place) → Weave → (place : Place) → List PlaceLook → List PlaceLook
placed_weaves nothing w place st = placed_look nothing w place (reverse (take w.takes st)) ∷ drop w.takes st

module _ (f : ℕ → Place) where
  abbrev pub map_look : Look → PlaceLook
  map_look l = record { first = option_map f l.first; trees = map_trees f l.trees }

  or_map : (x y : Option ℕ) → option_map f (option_or x y) ≡ option_or (option_map f x) (option_map f y)
  or_map None y = refl
  or_map (Some i) y = refl

  first_map : (ls : List Look) → option_map f (first_of ls) ≡ first_place (map map_look ls)
  first_map [] = refl
  first_map (l ∷ ls) = or_map l.first (first_of ls) ∙ ap (option_or (option_map f l.first)) (first_map ls)

  trees_map : (ls : List Look) → map_trees f (trees_of ls) ≡ place_trees (map map_look ls)
  trees_map [] = refl
  trees_map (l ∷ ls) = also_map f l.trees (trees_of ls) ∙ ap (also (map_trees f l.trees)) (trees_map ls)

  under_map : (n i : ℕ) (t : numbers.Trees) → map_trees f (under n i t) ≡ under_place n (f i) (map_trees f t)
  under_map zero i t = refl
  under_map (suc n) i t = under_map n i (numbers.one i t)

  unwrap_map : (x : Option ℕ) → f (unwrap_or x 0) ≡ unwrap_or (option_map f x) (f 0)
  unwrap_map None = refl
  unwrap_map (Some i) = refl

  own_map : (own : Bool) (i : ℕ) (x : Option ℕ) → option_map f (cond own (Some i) x) ≡ cond own (Some (f i)) (option_map f x)
  own_map true i x = refl
  own_map false i x = refl

  reverse_map : (ls : List Look) → reverse (map map_look ls) ≡ map map_look (reverse ls)
  reverse_map [] = refl
  reverse_map (l ∷ ls) =
      reverse-append (map_look l ∷ []) (map map_look ls) ∙ ap (λ xs. xs ++ map_look l ∷ []) (reverse_map ls)
      ∙ sym (map-append map_look (reverse ls) (l ∷ [])) ∙ ap (map map_look) (sym (reverse-append (l ∷ []) ls))

  abbrev mk : Option Place → Trees → PlaceLook
  mk x t = record { first = x; trees = t }

  look_map : (w : Weave) (i : ℕ) (parts : List Look) → map_look (look_of w i parts) ≡ placed_look (f 0) w (f (i - 1)) (map map_look parts)
  look_map w i parts =
      let first = cond w.own (Some (i - 1)) (first_of parts) in
      let to = own_map w.own (i - 1) (first_of parts) ∙ ap (cond w.own (Some (f (i - 1)))) (first_map parts) in
      ap (λ t. mk (option_map f first) t) (under_map w.nodes (unwrap_or first 0) (trees_of parts) ∙ ap (λ p. under_place w.nodes p (map_trees f (trees_of parts))) (unwrap_map first)
      ∙ ap (under_place w.nodes (unwrap_or (option_map f first) (f 0))) (trees_map parts))
      ∙ ap (λ x. mk x (under_place w.nodes (unwrap_or x (f 0)) (place_trees (map map_look parts)))) to

  pub weaves_map : (w : Weave) (i : ℕ) (st : List Look) → map map_look (weaves w i st) ≡ placed_weaves (f 0) w (f (i - 1)) (map map_look st)
  weaves_map w i st =
      let parts = reverse (take w.takes st) in
      ap (λ l. l ∷ map map_look (drop w.takes st)) (look_map w i parts)
      ∙ ap (λ ps. placed_look (f 0) w (f (i - 1)) ps ∷ map map_look (drop w.takes st)) (sym (reverse_map (take w.takes st)) ∙ ap reverse (sym (take-map map_look w.takes st)))
      ∙ ap (λ rest. placed_look (f 0) w (f (i - 1)) (reverse (take w.takes (map map_look st))) ∷ rest) (sym (drop-map map_look w.takes st))

abbrev given : Place → Weave → List PlaceLook → Bool → Place → List PlaceLook
given nothing w st own r = placed_weaves nothing (record { takes = w.takes; nodes = w.nodes; own = own }) r st

-- the place of a token matters only where the value begins at it
pub own_place : (nothing : Place) (w : Weave) (p q : Place) (st : List PlaceLook) → (w.own ≡ true → p ≡ q) → placed_weaves nothing w p st ≡ placed_weaves nothing w q st
own_place nothing w p q st h = by w.own h
  where
    by : (own : Bool) → (own ≡ true → p ≡ q) → given nothing w st own p ≡ given nothing w st own q
    by true k = ap (given nothing w st true) (k refl)
    by false k = refl

-- what is mapped to one look is one look
pub record Lone (f : ℕ → Place) (ls : List Look) (x : PlaceLook) : Type 0 where
  pub look : Look
  pub is : ls ≡ look ∷ []
  pub trees : map_trees f look.trees ≡ x.trees

pub lone_look : (f : ℕ → Place) (ls : List Look) (x : PlaceLook) → x ∷ [] ≡ map (map_look f) ls → Lone f ls x
lone_look f [] x e = absurd (let z : x ∷ [] ≡ [] = e in cc)
lone_look f (l ∷ []) x e = record { look = l; is = refl; trees = ap (λ (y : PlaceLook). y.trees) (let z : map_look f l ≡ x = cc in z) }
lone_look f (l ∷ k ∷ ls) x e = absurd (let z : x ∷ [] ≡ map_look f l ∷ map_look f k ∷ map (map_look f) ls = e in cc)
