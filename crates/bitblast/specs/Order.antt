-- When the variables of a list are given their words. The place of a step is the number of steps up to it.
use Rattle.std.specs.Prelude.{◌≡◌, ℕ, ◌+◌, ◌<◌, ◌≤◌, true, false, List, ◌∷◌, Some, length, take, slice_get, slice_index, Contains}
use Rattle.word_eqs.specs.declared.term.TermNode.{TermNode}
use Rattle.word_eqs.specs.declared.term.TermNode.TheVariants.{Var}
use Rattle.word_eqs.specs.declared.term.VarId.{VarId}
use Rattle.word_eqs.specs.declared.list.Act.{Act}
use Rattle.word_eqs.specs.declared.list.Step.{Step}
use Rattle.word_eqs.specs.Graph.{Graph, parts}
use Rattle.word_eqs.specs.Guarded.{FitsStep, Uses, act_terms, gives, givers}

-- the first k steps fit, and a variable that has a place is given its word there alone; one without is given none
pub record ArePlaced (g : Graph) (list : List Step) (k : ℕ) (place : List ℕ) : Type 0 where
  pub len : length place ≡ length g.vars
  pub fit : (j : ℕ) (s : Step) → j < k → slice_get list j ≡ Some s → FitsStep g s
  pub none : (x : ℕ) → slice_index place x ≡ 0 → givers x (take k list) ≡ 0
  pub some : (x : ℕ) → 0 < slice_index place x → (slice_index place x ≤ k) × ((j : ℕ) → slice_index place x ≤ j → j ≤ k → givers x (take j list) ≡ 1)

-- a step at a place was the first to give its variable a word
pub record Places (act : Act) (k : ℕ) (old new : List ℕ) : Type 0 where
  pub len : length new ≡ length old
  pub here : (x : ℕ) → gives x act ≡ true → (slice_index old x ≡ 0) × (slice_index new x ≡ k + 1)
  pub other : (x : ℕ) → gives x act ≡ false → slice_index new x ≡ slice_index old x

-- no variable that a node uses is given its word after this place
pub record IsLatest (place last : List ℕ) (node : TermNode) (latest : ℕ) : Type 0 where
  pub var : (x : VarId) → node ≡ Var x → slice_index place x.0 ≤ latest
  pub parts : (t : ℕ) → Contains (parts node) t → slice_index last t ≤ latest

-- the same of each of the first k terms
pub record AreLatest (g : Graph) (place last : List ℕ) (k : ℕ) : Type 0 where
  pub len : length last ≡ k
  pub at : (t x : ℕ) → t < k → Uses g t x → slice_index place x ≤ slice_index last t

-- the terms of a step use variables that are given their words before it
abbrev pub AreEarly : List ℕ → ℕ → Step → Type 0
AreEarly last k s = (t : ℕ) → Contains (s.guard.0 ∷ act_terms s.act) t → slice_index last t ≤ k
