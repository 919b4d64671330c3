-- The work is linear: a measure of each stack falls with each production, and the tokens pay for the others.
use Rattle.std.proofs.Common.{◌≡◌, ℕ, suc, ◌+◌, ◌*◌, ◌<◌, ◌≤◌, Bool, true, false, cond, List, [], ◌∷◌, ◌++◌, length, refl, sym, ◌∙◌, ap, subst, arith}
use Rattle.ll_parse.specs.Conditions.{steps_of, all_nullable, costs_of, tokens_of, IsLinear}
use Rattle.ll_parse.specs.Grammar.{Grammar, Derives}
use Rattle.ll_parse.specs.Grammar.Derives.{done, token, production}

module _ (g : Grammar) (cost : ℕ → ℕ) (nullable : ℕ → Bool) (per_token : ℕ) where
  cond_steps : (b c : Bool) (m n k : ℕ) → m + cond b (n + cond c k 0) 0 ≡ m + cond b n 0 + cond (cond b c false) k 0
  cond_steps true c m n k = omega arith
  cond_steps false c m n k = omega arith

  steps_of-append : (xs ss : List ℕ) → steps_of g cost nullable per_token (xs ++ ss) ≡ steps_of g cost nullable per_token xs + cond (all_nullable g cost nullable per_token xs) (steps_of g cost nullable per_token ss) 0
  steps_of-append [] ss = omega arith
  steps_of-append (x ∷ xs) ss = ap (λ n. cost x + cond (nullable x) n 0) (steps_of-append xs ss) ∙ cond_steps (nullable x) (all_nullable g cost nullable per_token xs) (cost x) (steps_of g cost nullable per_token xs) (steps_of g cost nullable per_token ss)

  cond_le : (b c : Bool) (k : ℕ) → (b ≡ true → c ≡ true) → cond b k 0 ≤ cond c k 0
  cond_le true c k h = let e : c ≡ true = h refl in rw e (omega arith)
  cond_le false c k h = omega arith

  pub steps_fall : IsLinear g cost nullable per_token → (p s : ℕ) (ss : List ℕ) → p < g.productions → s ≡ g.head p → steps_of g cost nullable per_token (g.body p ++ ss) < steps_of g cost nullable per_token (s ∷ ss)
  steps_fall h p s ss small is =
      let e = steps_of-append (g.body p) ss in
      let a : steps_of g cost nullable per_token (g.body p) < cost s = subst (λ n. steps_of g cost nullable per_token (g.body p) < cost n) (sym is) (h.costs p small) in
      let b : cond (all_nullable g cost nullable per_token (g.body p)) (steps_of g cost nullable per_token ss) 0 ≤ cond (nullable s) (steps_of g cost nullable per_token ss) 0 =
      cond_le (all_nullable g cost nullable per_token (g.body p)) (nullable s) (steps_of g cost nullable per_token ss) (λ t. ap nullable is ∙ h.nulls p small t) in
      omega (arith, e, a, b)

  costs_of-append : (xs ss : List ℕ) → costs_of g cost nullable per_token (xs ++ ss) ≡ costs_of g cost nullable per_token xs + costs_of g cost nullable per_token ss
  costs_of-append [] ss = omega arith
  costs_of-append (x ∷ xs) ss = let h = costs_of-append xs ss in omega arith

  tokens_of-append : (xs ss : List ℕ) → tokens_of g cost nullable per_token (xs ++ ss) ≡ tokens_of g cost nullable per_token xs + tokens_of g cost nullable per_token ss
  tokens_of-append [] ss = omega arith
  tokens_of-append (x ∷ xs) ss = let h = tokens_of-append xs ss in omega arith

  -- the arithmetic of a production: c is what a token pays, b and d stand for the body, s and t for what comes after
  paid : (c ps n head one cb tb cs ts : ℕ) → 1 + cb + c * one ≤ head + c * tb → ps + c * (tb + ts) ≤ cb + cs + c * n → suc ps + c * (one + ts) ≤ head + cs + c * n
  paid c ps n head one cb tb cs ts h k = omega arith

  -- The tokens pay for the productions.
  pub few_productions : IsLinear g cost nullable per_token → {ss ps ts : List ℕ} → Derives g ss ps ts →
      length ps + per_token * tokens_of g cost nullable per_token ss ≤ costs_of g cost nullable per_token ss + per_token * length ts
  few_productions h done = omega arith
  few_productions h (token {k} {ss} {ps} {ts} small d) =
      let w = few_productions h d in
      let e = (h.tokens k small).0 in
      rw (h.tokens k small).1 (omega (arith, e, w))
  few_productions h (production {s} {ss} {ts} p ps small is allowed d) =
      let w = few_productions h d in
      let a = costs_of-append (g.body p) ss in
      let b = tokens_of-append (g.body p) ss in
      paid per_token (length ps) (length ts) (cost s) (cond (nullable s) 0 1) (costs_of g cost nullable per_token (g.body p)) (tokens_of g cost nullable per_token (g.body p)) (costs_of g cost nullable per_token ss) (tokens_of g cost nullable per_token ss)
      (subst (λ n. 1 + costs_of g cost nullable per_token (g.body p) + per_token * cond (nullable n) 0 1 ≤ cost n + per_token * tokens_of g cost nullable per_token (g.body p)) (sym is) (h.pays p small))
      (subst (λ n. length ps + per_token * n ≤ costs_of g cost nullable per_token (g.body p) + costs_of g cost nullable per_token ss + per_token * length ts) b
      (subst (λ n. length ps + per_token * tokens_of g cost nullable per_token (g.body p ++ ss) ≤ n + per_token * length ts) a w))
