-- The steps of what a stack of symbols derives, where i tokens come before it.
use Rattle.std.proofs.Common.{◌≡◌, ℕ, suc, ◌<◌, ◌≤◌, List, [], ◌∷◌, ◌++◌, get_or, refl, ◌∙◌, ap}
use Rattle.ll_parse.specs.Grammar.{Grammar}
use Rattle.ll_parse.specs.Places.{place_of, below, placed}
use Rattle.ll_parse.proofs.PlaceSteps.{place_token, below_token, place_production, below_production}
use Rattle.ll_actions.specs.declared.step.Step.{Step}
use Rattle.ll_actions.specs.Steps.{marked, steps_of}

module _ (g : Grammar) (marks : List ℕ) where
  abbrev pub steps_at : ℕ → List ℕ → List ℕ → List Step
  steps_at i ss ps = steps_of marks (placed g i ss ps)

  pub steps_token : (i k : ℕ) (ss ps : List ℕ) → k < 256 → steps_at i (k ∷ ss) ps ≡ steps_at (suc i) ss ps
  steps_token i k ss [] small = refl
  steps_token i k ss (p ∷ ps) small =
      ap (λ x. marked (get_or marks p 0) x (steps_at x (g.body p ++ below (k ∷ ss)) ps)) (place_token i k ss small)
      ∙ ap (λ x. marked (get_or marks p 0) (place_of (suc i) ss) (steps_at (place_of (suc i) ss) (g.body p ++ x) ps)) (below_token k ss small)

  pub steps_production : (i s p : ℕ) (ss ps : List ℕ) → 256 ≤ s → steps_at i (s ∷ ss) (p ∷ ps) ≡ marked (get_or marks p 0) i (steps_at i (g.body p ++ ss) ps)
  steps_production i s p ss ps big =
      ap (λ x. marked (get_or marks p 0) x (steps_at x (g.body p ++ below (s ∷ ss)) ps)) (place_production i s ss big)
      ∙ ap (λ x. marked (get_or marks p 0) i (steps_at i (g.body p ++ x) ps)) (below_production s ss big)
