-- Each stack that a run keeps stands for some text.
use Rattle.std.proofs.Common.{ℕ, suc, zero, ◌<◌, ◌≤◌, inl, inr, List, [], ◌∷◌, ◌++◌, arith}
use Rattle.ll_parse.specs.Conditions.{CanEnd, CanEndBelow, AllCanEnd, AllCanEndBelow, tail_of, Completes, HasText}
use Rattle.ll_parse.specs.Grammar.{Grammar}
use Rattle.ll_parse.specs.Grammar.Derives.{done, token, production}

module _ (g : Grammar) (witness rank : ℕ → ℕ) (completes : Completes g witness rank) where
  can_end_below : (s : ℕ) → CanEnd g witness rank s → CanEndBelow g witness rank (suc (rank s)) s
  can_end_below s (inl h) = inl h
  can_end_below s (inr h) = inr (h.0, h.1, omega arith)

  can_end_up : (m r x : ℕ) → m ≤ r → CanEndBelow g witness rank m x → CanEndBelow g witness rank r x
  can_end_up m r x le (inl h) = inl h
  can_end_up m r x le (inr h) = inr (h.0, h.1, omega (arith, h.2))

  all_up : (m r : ℕ) (xs : List ℕ) → m ≤ r → AllCanEndBelow g witness rank m xs → AllCanEndBelow g witness rank r xs
  all_up m r [] le h = tt
  all_up m r (x ∷ xs) le h = (can_end_up m r x le h.0, all_up m r xs le h.1)

  stands_list : (r : ℕ) → ((s : ℕ) (ss : List ℕ) → CanEndBelow g witness rank r s → HasText g witness rank ss → HasText g witness rank (s ∷ ss)) →
      (xs ss : List ℕ) → AllCanEndBelow g witness rank r xs → HasText g witness rank ss → HasText g witness rank (xs ++ ss)
  stands_list r one [] ss h w = w
  stands_list r one (x ∷ xs) ss h w = one x (xs ++ ss) h.0 (stands_list r one xs ss h.1 w)

  stands_one : (r : ℕ) (s : ℕ) (ss : List ℕ) → CanEndBelow g witness rank r s → HasText g witness rank ss → HasText g witness rank (s ∷ ss)
  stands_one zero s ss (inl h) w = (w.0, s ∷ w.1, h.1, token h.0 w.3)
  stands_one zero s ss (inr h) w = absurd (omega (arith, h.2))
  stands_one (suc r) s ss (inl h) w = (w.0, s ∷ w.1, h.1, token h.0 w.3)
  stands_one (suc r) s ss (inr h) w =
      let le : rank s ≤ r = omega (arith, h.2) in
      let n = stands_list r (stands_one r) (g.body (witness s)) ss (all_up (rank s) r (g.body (witness s)) le (completes.witnesses s h.0 h.1)) w in
      (witness s ∷ n.0, n.1, n.2, production (witness s) n.0 h.1.0 h.1.1 (n.2 (witness s) h.1.0) n.3)

  pub stands : (ss : List ℕ) → AllCanEnd g witness rank ss → HasText g witness rank ss
  stands [] h = ([], [], completes.ends, done)
  stands (s ∷ ss) h = stands_one (suc (rank s)) s ss (can_end_below s h.0) (stands ss h.1)

  pub all_append : (xs ss : List ℕ) → AllCanEnd g witness rank xs → AllCanEnd g witness rank ss → AllCanEnd g witness rank (xs ++ ss)
  all_append [] ss h k = k
  all_append (x ∷ xs) ss h k = (h.0, all_append xs ss h.1 k)

  tail_append : (xs ss : List ℕ) → AllCanEnd g witness rank (tail_of g witness rank xs) → AllCanEnd g witness rank ss → AllCanEnd g witness rank (tail_of g witness rank (xs ++ ss))
  tail_append [] [] h k = tt
  tail_append [] (s ∷ ss) h k = k.1
  tail_append (x ∷ xs) ss h k = all_append xs ss h k

  -- a production keeps all below the top good
  pub tail_production : (p : ℕ) (ss : List ℕ) → p < g.productions → AllCanEnd g witness rank ss → AllCanEnd g witness rank (tail_of g witness rank (g.body p ++ ss))
  tail_production p ss small k = tail_append (g.body p) ss (completes.tails p small) k
