-- How the numbers of a chooser change with a clause that was derived: each variable of it gains the step, and the step
-- grows by a sixteenth of itself and 1. Where one of them passes 2 ^ 60, all are divided by 2 ^ 40.
use Rattle.std.specs.Prelude.{ℕ, ◌+◌, ◌/◌, ◌^◌, nat_lt, List, [], ◌∷◌, map, if◌then◌else◌, slice_index, slice_set}
use Rattle.clause_arena.specs.Clause.{Clause}

-- the chooser's number of each variable, and the step by which they grow
pub record Numbers : Type 0 where
  pub each : List ℕ
  pub step : ℕ

-- the numbers and the step together
abbrev pub numbers : List ℕ → ℕ → Numbers
numbers xs s = record { each = xs; step = s }

-- the step is at least 1
abbrev pub shrunk_step : ℕ → ℕ
shrunk_step s = if nat_lt (s / 2 ^ 40) 1 then 1 else s / 2 ^ 40

-- all numbers divided by 2 ^ 40
abbrev pub shrunk : List ℕ → List ℕ
shrunk xs = map (λ x. x / 2 ^ 40) xs

-- a variable gains the step; past 2 ^ 60 the numbers and the step are divided
abbrev pub gained : Numbers → ℕ → Numbers
gained n v =
    if nat_lt (2 ^ 60) (slice_index n.each v + n.step)
    then record { each = slice_set (shrunk n.each) v ((slice_index n.each v + n.step) / 2 ^ 40); step = shrunk_step n.step }
    else record { each = slice_set n.each v (slice_index n.each v + n.step); step = n.step }

-- the step grows; past 2 ^ 60 the numbers and the step are divided
abbrev pub grown : Numbers → Numbers
grown n =
    if nat_lt (2 ^ 60) (n.step + n.step / 16 + 1)
    then record { each = shrunk n.each; step = (n.step + n.step / 16 + 1) / 2 ^ 40 }
    else record { each = n.each; step = n.step + n.step / 16 + 1 }

-- after each variable of the clause in turn
unfoldable pub all_gained : Numbers → Clause → Numbers
all_gained n [] = n
all_gained n (l ∷ ls) = all_gained (gained n l.var) ls

-- what a derived clause changes: each variable of it gains, then the step grows
abbrev pub after_clause : Numbers → Clause → Numbers
after_clause n c = grown (all_gained n c)
