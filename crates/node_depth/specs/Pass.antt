-- The pass from the left: what the code holds of the values on the stack, and the nodes that it lists.
use Rattle.std.specs.Prelude.{ℕ, ◌+◌, ◌-◌, cond, List, [], ◌∷◌, ◌++◌, drop, reverse, unwrap_or}
use Rattle.std.proofs.Common.{suc, zero}
use Rattle.std.specs.Option.{option_or}
use Rattle.std.specs.declared.option.Option.TheVariants.{None, Some}
use Rattle.ll_actions.specs.declared.step.Step.{Step}
use Rattle.node_depth.specs.declared.depth.Node.{Node}
use Rattle.node_depth.specs.declared.weave.Part.{Part}
use Rattle.node_depth.specs.declared.weave.Weave.{Weave}
use Rattle.node_depth.specs.Weaves.{weave_of}

-- a value without tokens and without trees
abbrev pub NOTHING : Part
NOTHING = record { first = None; count = 0 }

-- a value before another one, as one
abbrev pub beside : Part → Part → Part
beside a b = record { first = option_or a.first b.first; count = a.count + b.count }

-- the top n values as one
abbrev pub gathered : ℕ → List Part → Part
gathered zero st = NOTHING
gathered (suc n) [] = NOTHING
gathered (suc n) (p ∷ st) = beside (gathered n st) p

-- n nested nodes over c trees, the inner ones first, and how many trees there are then
abbrev pub wrapped : ℕ → ℕ → ℕ → List Node
wrapped zero p c = []
wrapped (suc n) p c = record { inside = c; place = p } ∷ wrapped n p 1

-- how many trees there are with n nested nodes over c trees
abbrev pub count_under : ℕ → ℕ → ℕ
count_under zero c = c
count_under (suc n) c = 1

-- the values, the top one first, and the nodes, the oldest first
pub record State : Type 0 where
  pub parts : List Part
  pub nodes : List Node

-- what the code holds: the last item of each list is the newest
abbrev pub held : List Part → List Node → State
held ps ns = record { parts = reverse ps; nodes = ns }

-- One step: it takes its parts off the stack, puts their whole there, and lists the nodes that it makes over them.
abbrev pub step_of : Weave → ℕ → State → State
step_of w i s =
    let whole = gathered w.takes s.parts in
    let first = cond w.own (Some (i - 1)) whole.first in
    record {
      parts = record { first = first; count = count_under w.nodes whole.count } ∷ drop w.takes s.parts;
      nodes = s.nodes ++ wrapped w.nodes (unwrap_or first 0) whole.count;
    }

-- the steps in order
abbrev pub run : List Weave → List Step → State → State
run ws [] s = s
run ws (x ∷ xs) s = run ws xs (step_of (weave_of ws x.action) x.token s)

-- how many trees all these values have
abbrev pub total : List Part → ℕ
total [] = 0
total (p ∷ ps) = p.count + total ps
