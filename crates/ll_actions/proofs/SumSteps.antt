-- What the tests of the example's table say of the steps of a sum.
use Rattle.std.proofs.Common.{◌≡◌, ℕ, List, [], ◌∷◌, sym, ◌∙◌, ap, subst}
use Rattle.std.specs.List.{All}
use Rattle.std.specs.declared.option.Option.TheVariants.{Some}
use Rattle.ll_parse.specs.Grammar.{Parses}
use Rattle.ll_parse.specs.Places.{placed}
use Rattle.ll_parse.specs.Tables.{Lists, grammar_of}
use Rattle.ll_parse.specs.declared.placing.Placed.{Placed}
use Rattle.ll_actions.proofs.ExampleTables.{sums_is_ll, sums_typed, sums_placed}
use Rattle.ll_actions.proofs.Placed.{placed_steps}
use Rattle.ll_actions.proofs.Typed.{typed_steps}
use Rattle.ll_actions.specs.After.{IsPlaced}
use Rattle.ll_actions.specs.Examples.{SUMS, SIGNATURES, EFFECTS, AFTER, SPOTS, NUMBER}
use Rattle.ll_actions.specs.Sorts.{sorts_after}
use Rattle.ll_actions.specs.Steps.{steps_of}
use Rattle.ll_actions.specs.declared.examples.TheConstants.{SUM_MARKS}
use Rattle.ll_actions.specs.declared.step.Step.{Step}

module _ (t : Lists) (is : t ≡ SUMS) (ts ps : List ℕ) (d : Parses (grammar_of t) ts ps) (pl : List Placed) (xs : List Step)
    (pe : pl ≡ placed (grammar_of t) 0 (t.start ∷ []) ps) (xe : xs ≡ steps_of SUM_MARKS pl) where
  derived : Parses (grammar_of SUMS) ts ps
  derived = subst (λ u. Parses (grammar_of u) ts ps) is d

  steps_are : xs ≡ steps_of SUM_MARKS (placed (grammar_of SUMS) 0 (SUMS.start ∷ []) ps)
  steps_are = xe ∙ ap (steps_of SUM_MARKS) (pe ∙ ap (λ u. placed (grammar_of u) 0 (u.start ∷ []) ps) is)

  pub sorted : sorts_after SIGNATURES xs [] ≡ Some (NUMBER ∷ [])
  sorted = ap (λ x. sorts_after SIGNATURES x []) steps_are ∙ typed_steps SUMS sums_is_ll SUM_MARKS SIGNATURES EFFECTS NUMBER sums_typed ts ps derived

  pub after_tokens : All (IsPlaced AFTER ts) xs
  after_tokens = subst (All (IsPlaced AFTER ts)) (sym steps_are) (placed_steps SUMS sums_is_ll SUM_MARKS AFTER SPOTS sums_placed ts ps derived)
