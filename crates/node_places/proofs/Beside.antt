-- Trees beside others, at places.
use Rattle.std.proofs.Common.{◌≡◌, List, [], ◌∷◌, ◌++◌, refl, sym, ◌∙◌, ap, unwrap_or}
use Rattle.std.specs.Option.{option_or}
use Rattle.std.specs.declared.option.Option.{Option}
use Rattle.std.specs.declared.option.Option.TheVariants.{Some}
use Rattle.src_text.specs.declared.refusal.Place.{Place}
use Rattle.src_text.specs.Trees.{Trees, none, node, also, one, all_trees}
use Rattle.node_places.proofs.Looks.{PlaceLook, first_in}

pub also_assoc : (a b c : Trees) → also (also a b) c ≡ also a (also b c)
also_assoc none b c = refl
also_assoc (node p x y) b c = ap (node p x) (also_assoc y b c)

-- nothing after trees
pub end1 : (a : Trees) → a ≡ also a none
end1 none = refl
end1 (node p x y) = ap (node p x) (end1 y)

pub end2 : (a b : Trees) → also a b ≡ also a (also b none)
end2 a b = ap (also a) (end1 b)

pub end3 : (a b c : Trees) → also a (also b c) ≡ also a (also b (also c none))
end3 a b c = ap (also a) (end2 b c)

pub end4 : (a b c d : Trees) → also a (also b (also c d)) ≡ also a (also b (also c (also d none)))
end4 a b c d = ap (also a) (end3 b c d)

pub in_one : (p : Place) {a b : Trees} → a ≡ b → one p a ≡ one p b
in_one p e = ap (λ x. one p x) e

-- one more at the end of a list
pub more_trees : {A : Type 0} (trees : A → Trees) (xs : List A) (x : A) → all_trees trees (xs ++ x ∷ []) ≡ also (all_trees trees xs) (also (trees x) none)
more_trees trees [] x = refl
more_trees trees (y ∷ ys) x = ap (also (trees y)) (more_trees trees ys x) ∙ sym (also_assoc (trees y) (all_trees trees ys) (also (trees x) none))

-- the same where that one has two parts
pub more_parts : {A : Type 0} (trees : A → Trees) (xs : List A) (x : A) (a b : Trees) → trees x ≡ also a b → all_trees trees (xs ++ x ∷ []) ≡ also (all_trees trees xs) (also a (also b none))
more_parts trees xs x a b e = more_trees trees xs x ∙ ap (λ y. also (all_trees trees xs) (also y none)) e ∙ ap (also (all_trees trees xs)) (also_assoc a b none)

pub more_first : {A : Type 0} (start : A → Place) (xs : List A) (x : A) → first_in start (xs ++ x ∷ []) ≡ option_or (first_in start xs) (Some (start x))
more_first start [] x = refl
more_first start (y ∷ ys) x = refl

abbrev pub looks : Option Place → Trees → PlaceLook
looks first trees = record { first = first; trees = trees }

-- the looks of two values on a stack, by parts
pub both : {x y : Option Place} {a b : Trees} (rest : List PlaceLook) → x ≡ y → a ≡ b → looks x a ∷ rest ≡ looks y b ∷ rest
both {y = y} {a = a} rest e h = ap (λ z. looks z a ∷ rest) e ∙ ap (λ z. looks y z ∷ rest) h

-- a node begins where its value does
pub wrapped : (nothing : Place) {p : Place} {y : Option Place} {a b : Trees} (rest : List PlaceLook) → Some p ≡ y → a ≡ b → looks (Some p) (one p a) ∷ rest ≡ looks y (one (unwrap_or y nothing) b) ∷ rest
wrapped nothing {p} {y} {a} {b} rest e h = ap (λ z. looks (Some p) (one p z) ∷ rest) h ∙ ap (λ z. looks z (one (unwrap_or z nothing) b) ∷ rest) e
