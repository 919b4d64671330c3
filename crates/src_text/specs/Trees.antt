-- Trees as their nodes alone, each with the place of its first token.
use Rattle.std.specs.Prelude.{ℕ, ◌+◌, max, List, [], ◌∷◌, Option, Some, None}
use Rattle.std.proofs.Common.{suc}
use Rattle.src_text.specs.declared.refusal.Place.{Place}

-- Trees side by side, in text order. A node has its place, the trees inside it and those after it.
pub data Trees : Type 0 where
  none : Trees
  node : (place : Place) → (inside after : Trees) → Trees

-- how many nodes the longest way from a root down has
abbrev pub height : Trees → ℕ
height none = 0
height (node p a b) = max (1 + height a) (height b)

-- how many nodes there are
abbrev pub size : Trees → ℕ
size none = 0
size (node p a b) = 1 + size a + size b

-- trees, and more behind them
abbrev pub also : Trees → Trees → Trees
also none g = g
also (node p a b) g = node p a (also b g)

-- one tree
abbrev pub one : Place → Trees → Trees
one p f = node p f none

-- a node without more inside it
abbrev pub leaf : Place → Trees
leaf p = one p none

-- the trees of a list's elements, side by side
abbrev pub all_trees : {A : Type 0} → (A → Trees) → List A → Trees
all_trees trees [] = none
all_trees trees (x ∷ xs) = also (trees x) (all_trees trees xs)

-- the nodes of a part, if there is one
abbrev pub option_trees : {A : Type 0} → (A → Trees) → Option A → Trees
option_trees trees None = none
option_trees trees (Some x) = trees x

-- Among trees whose roots stand x deep, a node stands y deep and begins at place p.
pub data Stands : ℕ → Trees → ℕ → Place → Type 0 where
  here : {x : ℕ} {p : Place} {a b : Trees} → Stands x (node p a b) x p
  inside : {x y : ℕ} {p q : Place} {a b : Trees} → Stands (suc x) a y q → Stands x (node p a b) y q
  after : {x y : ℕ} {p q : Place} {a b : Trees} → Stands x b y q → Stands x (node p a b) y q
