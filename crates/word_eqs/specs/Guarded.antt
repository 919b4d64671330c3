-- Guarded lists: what an assignment makes of them, and which are in order.
use Rattle.std.specs.Prelude.{◌≡◌, ℕ, ◌<◌, Bool, false, List, [], ◌∷◌, ◌++◌, Some, length, count_by, nat_eq, take, slice_get, Contains}
use Rattle.bits_core.specs.Word.{at_zero}
use Rattle.word_eqs.specs.declared.term.TermNode.{TermNode}
use Rattle.word_eqs.specs.declared.term.TermNode.TheVariants.{Var}
use Rattle.word_eqs.specs.declared.list.Act.{Act}
use Rattle.word_eqs.specs.declared.list.Act.TheVariants.{Free, Set, Cut, Prop}
use Rattle.word_eqs.specs.declared.list.Step.{Step}
use Rattle.word_eqs.specs.Graph.{Graph, width_in, width_of_var, node_at, parts}
use Rattle.word_eqs.specs.Meaning.{Values}

-- how a list may be ended: by an assumption that is 0, or by a property that is
pub data Stop : Type 0 where
  AtCut : Stop
  AtProp : (p : ℕ) → Stop

-- what a list does: the choices read, and how it is ended, if it is
pub data Walk : Type 0 where
  Passes : (reads : List ℕ) → Walk
  Stops : (reads : List ℕ) (stop : Stop) → Walk

-- one walk after another: once the list is ended, nothing is read or ended any more
abbrev pub walk_then : Walk → Walk → Walk
walk_then (Stops r e) w = Stops r e
walk_then (Passes r) (Passes r') = Passes (r ++ r')
walk_then (Passes r) (Stops r' e) = Stops (r ++ r') e

-- what a step does where its guard is 1: it reads a choice, sets a variable, or ends the list if its term is 0
abbrev pub act_walk : Values → Act → Walk
act_walk v (Free x) = Passes ((v.var x.0).value ∷ [])
act_walk v (Set x t) = Passes []
act_walk v (Cut t) = at_zero (v.term t.0).value (Stops [] AtCut) (Passes [])
act_walk v (Prop p t) = at_zero (v.term t.0).value (Stops [] (AtProp p)) (Passes [])

-- a step whose guard is 0 does nothing
abbrev pub step_walk : Values → Step → Walk
step_walk v s = at_zero (v.term s.guard.0).value (Passes []) (act_walk v s.act)

-- what the steps of a list do, in order
abbrev pub walk : Values → List Step → Walk
walk v [] = Passes []
walk v (s ∷ list) = walk_then (step_walk v s) (walk v list)

-- the values of the Free steps with guard 1 that stand before the end
abbrev pub choices_read : Walk → List ℕ
choices_read (Passes reads) = reads
choices_read (Stops reads stop) = reads

-- the property p ends the list: it is 0 where its guard is 1, and nothing before it has ended the list
abbrev pub Breaks : Values → List Step → ℕ → Type 0
Breaks v list p = (reads : List ℕ) × (walk v list ≡ Stops reads (AtProp p))

-- the Free steps with guard 1 before the end, by the widths of their variables
abbrev pub widths_read : Graph → Values → List Step → List ℕ
widths_read g v list = choices_read (walk (record { var = λ x. record { width = 0; value = width_of_var g x }; term = v.term }) list)

-- a variable that is set has the word of its term, whatever the guard
abbrev pub SetsAs : Values → Act → Type 0
SetsAs v (Free x) = Unit {0}
SetsAs v (Set x t) = v.var x.0 ≡ v.term t.0
SetsAs v (Cut t) = Unit {0}
SetsAs v (Prop p t) = Unit {0}

-- the same for each step
pub record Assigns (v : Values) (list : List Step) : Type 0 where
  pub at : (k : ℕ) (s : Step) → slice_get list k ≡ Some s → SetsAs v s.act

-- whether a step gives a variable its word
abbrev pub gives : ℕ → Act → Bool
gives x (Free y) = nat_eq x y.0
gives x (Set y t) = nat_eq x y.0
gives x (Cut t) = false
gives x (Prop p t) = false

-- how many steps of a list give a variable its word
abbrev pub givers : ℕ → List Step → ℕ
givers x list = count_by (λ (s : Step). gives x s.act) list

-- the terms that a step names besides its guard
abbrev pub act_terms : Act → List ℕ
act_terms (Free x) = []
act_terms (Set x t) = t.0 ∷ []
act_terms (Cut t) = t.0 ∷ []
act_terms (Prop p t) = t.0 ∷ []

-- a term uses a variable: it is that variable, or one of its parts uses it
pub data Uses (g : Graph) : ℕ → ℕ → Type 0 where
  is_var : (t x : ℕ) → node_at g t ≡ Some (Var (record { 0 = x })) → Uses g t x
  by_part : (t s x : ℕ) (node : TermNode) → node_at g t ≡ Some node → Contains (parts node) s → Uses g s x → Uses g t x

-- the variable and the terms of a step are there, with widths that fit
abbrev pub FitsAct : Graph → Act → Type 0
FitsAct g (Free x) = x.0 < length g.vars
FitsAct g (Set x t) = (x.0 < length g.vars) × (t.0 < length g.terms) × (width_in g t.0 ≡ width_of_var g x.0)
FitsAct g (Cut t) = t.0 < length g.terms
FitsAct g (Prop p t) = t.0 < length g.terms

-- the guard of a step is a term of one bit, and what the step does fits
pub record FitsStep (g : Graph) (s : Step) : Type 0 where
  pub guard : s.guard.0 < length g.terms
  pub bit : width_in g s.guard.0 ≡ 1
  pub act : FitsAct g s.act

-- each variable is given its word by one step, and used after it alone
pub record IsOrdered (g : Graph) (list : List Step) : Type 0 where
  pub steps : (k : ℕ) (s : Step) → slice_get list k ≡ Some s → FitsStep g s
  pub once : (x : ℕ) → x < length g.vars → givers x list ≡ 1
  pub before : (k : ℕ) (s : Step) → slice_get list k ≡ Some s → (t x : ℕ) → Contains (s.guard.0 ∷ act_terms s.act) t → Uses g t x → givers x (take k list) ≡ 1
