-- The trees that steps make, and where each of their values begins. A stack is written from the top down.
use Rattle.std.specs.Prelude.{ℕ, ◌-◌, false, cond, List, [], ◌∷◌, take, drop, reverse, slice_index_or, unwrap_or}
use Rattle.std.proofs.Common.{suc, zero}
use Rattle.std.specs.Option.{option_or}
use Rattle.std.specs.declared.option.Option.{Option}
use Rattle.std.specs.declared.option.Option.TheVariants.{None, Some}
use Rattle.ll_actions.specs.declared.step.Step.{Step}
use Rattle.node_depth.specs.declared.weave.Weave.{Weave}
use Rattle.node_depth.specs.Nodes.{Trees, none, also, one}

-- A value: the number of its first token, where it has one, and its trees.
pub record Look : Type 0 where
  pub first : Option ℕ
  pub trees : Trees

-- the first token of the first value that has one
abbrev pub first_of : List Look → Option ℕ
first_of [] = None
first_of (l ∷ ls) = option_or l.first (first_of ls)

-- the trees of all, side by side
abbrev pub trees_of : List Look → Trees
trees_of [] = none
trees_of (l ∷ ls) = also l.trees (trees_of ls)

-- n nested nodes over the trees, which begin at the token p
abbrev pub under : ℕ → ℕ → Trees → Trees
under zero p f = f
under (suc n) p f = under n p (one p f)

-- The value of an action with i tokens before it, from its parts in text order.
abbrev pub look_of : Weave → ℕ → List Look → Look
look_of w i parts =
    let first = cond w.own (Some (i - 1)) (first_of parts) in
    record { first = first; trees = under w.nodes (unwrap_or first 0) (trees_of parts) }

-- what no weave is given for
abbrev pub PLAIN : Weave
PLAIN = record { takes = 0; nodes = 0; own = false }

-- what the action of this number takes and makes
abbrev pub weave_of : List Weave → ℕ → Weave
weave_of ws a = slice_index_or ws a PLAIN

-- An action with i tokens before it takes its parts off the stack, and puts its value there.
abbrev pub weaves : Weave → ℕ → List Look → List Look
weaves w i st = look_of w i (reverse (take w.takes st)) ∷ drop w.takes st

-- The values on the stack after the steps.
abbrev pub woven : List Weave → List Step → List Look → List Look
woven ws [] st = st
woven ws (s ∷ ss) st = woven ws ss (weaves (weave_of ws s.action) s.token st)

-- The steps, where only those that make a value of a token keep its number: what a tree says of its steps.
abbrev pub bare : List Weave → List Step → List Step
bare ws [] = []
bare ws (s ∷ ss) = record { action = s.action; token = cond (weave_of ws s.action).own s.token 0 } ∷ bare ws ss
