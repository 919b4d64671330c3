-- Trees as their nodes alone, and the first node that stands too deep.
use Rattle.std.specs.Prelude.{ℕ, ◌+◌, ◌<◌, ◌≤◌, max, List, [], ◌∷◌, ◌++◌, MatchOption}
use Rattle.std.proofs.Common.{suc}
use Rattle.std.specs.declared.option.Option.{Option}
use Rattle.node_depth.specs.declared.depth.Node.{Node}

-- Trees side by side, in text order. A node has the number of its first token, the trees inside it and those after it.
pub data Trees : Type 0 where
  none : Trees
  node : (place : ℕ) → (inside after : Trees) → Trees

-- how many trees stand side by side
abbrev pub count : Trees → ℕ
count none = 0
count (node p a b) = suc (count b)

-- the greatest depth of a node, where roots stand 1 deep
abbrev pub height : Trees → ℕ
height none = 0
height (node p a b) = max (1 + height a) (height b)

-- each node after those inside it
abbrev pub post : Trees → List Node
post none = []
post (node p a b) = post a ++ record { inside = count a; place = p } ∷ post b

-- Among trees whose roots stand x deep, a node stands y deep and begins at token i.
pub data Stands : ℕ → Trees → ℕ → ℕ → Type 0 where
  here : {x p : ℕ} {a b : Trees} → Stands x (node p a b) x p
  inside : {x p y i : ℕ} {a b : Trees} → Stands (suc x) a y i → Stands x (node p a b) y i
  after : {x p y i : ℕ} {a b : Trees} → Stands x b y i → Stands x (node p a b) y i

-- Token i is the first one of the first node that stands deeper than the limit.
pub record FirstDeep (limit : ℕ) (f : Trees) (i : ℕ) : Type 0 where
  pub high : limit < height f
  pub stands : Stands 1 f (limit + 1) i
  pub least : (j : ℕ) → Stands 1 f (limit + 1) j → i ≤ j

-- the place of the first node that stands deeper than the limit, where there is one
abbrev pub Deep : ℕ → Trees → Option ℕ → Type 0
Deep limit f r = MatchOption r (height f ≤ limit) (λ i. FirstDeep limit f i)

-- the trees of both, side by side
abbrev pub also : Trees → Trees → Trees
also none g = g
also (node p a b) g = node p a (also b g)

-- one tree
abbrev pub one : ℕ → Trees → Trees
one p f = node p f none
