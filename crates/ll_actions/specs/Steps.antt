-- The actions of a parse tree, in the order of the text.
use Rattle.std.specs.Prelude.{ℕ, List, [], ◌∷◌, slice_index}
use Rattle.std.proofs.Common.{suc, zero}
use Rattle.ll_parse.specs.declared.placing.Placed.{Placed}
use Rattle.ll_actions.specs.declared.step.Step.{Step}

-- A mark and how many tokens come before its production: a step for an action, none for 0.
abbrev pub marked : ℕ → ℕ → List Step → List Step
marked zero i ss = ss
marked (suc a) i ss = record { action = a; token = i } ∷ ss

-- the steps of the productions of a parse tree, in their order
abbrev pub steps_of : List ℕ → List Placed → List Step
steps_of marks [] = []
steps_of marks (p ∷ ps) = marked (slice_index marks p.production) p.place (steps_of marks ps)
