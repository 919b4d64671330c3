-- The machine's steps, on the stack as the code keeps it.
use Rattle.std.proofs.Common.{◌≡◌, ℕ, suc, ◌<◌, ◌≤◌, List, [], ◌∷◌, ◌++◌, length, reverse, refl, ◌∙◌, ap, append_assoc, arith}
use Rattle.std.proofs.lemmas.List.{reverse-append, reverse-reverse}
use Rattle.ll_parse.specs.Conditions.{AllCanEnd, tail_of, IsLl, steps_of}
use Rattle.ll_parse.specs.Machine.{IsKept, Expands, MatchTop}
use Rattle.ll_parse.specs.Grammar.{Parses}
use Rattle.ll_parse.specs.Tables.{Lists, most_productions, grammar_of, cell_of, follow_of, witness_of, rank_of, cost_of, nullable_of}
use Rattle.ll_parse.proofs.Alive.{tail_production}
use Rattle.ll_parse.proofs.Linear.{steps_fall, few_productions}
use Rattle.ll_parse.proofs.Theory.{linked_production, leads_production, no_production}
use Rattle.ll_parse.specs.declared.machine.Top.TheVariants.{Token, Stuck}

pub popped : (old new : List ℕ) (x : ℕ) → old ≡ new ++ x ∷ [] → reverse old ≡ x ∷ reverse new
popped old new x e = ap reverse e ∙ reverse-append new (x ∷ [])

pub pushed : (old new b : List ℕ) → new ≡ old ++ reverse b → reverse new ≡ b ++ reverse old
pushed old new b e = ap reverse e ∙ reverse-append old (reverse b) ∙ ap (λ x. x ++ reverse old) (reverse-reverse b)

abbrev pub Size : Lists → List ℕ → ℕ
Size t ss = steps_of (grammar_of t) (cost_of t) (nullable_of t) t.per_token ss

module _ (t : Lists) where
  tail_can_end : (ss : List ℕ) → AllCanEnd (grammar_of t) (witness_of t) (rank_of t) ss → AllCanEnd (grammar_of t) (witness_of t) (rank_of t) (tail_of (grammar_of t) (witness_of t) (rank_of t) ss)
  tail_can_end [] h = tt
  tail_can_end (s ∷ ss) h = h.1

  pub going_start : (a : ℕ) (ss : List ℕ) → IsKept t ss → Expands t a ss [] ss
  going_start a ss h = record {
    leads = record { sound = λ ps us e d. d; whole = λ all us e d. (all, refl, d) };
    linked = h.0;
    can_end = tail_can_end ss h.1;
  }

module _ (t : Lists) (ll : IsLl t) where
  pub production_inside : (a p s : ℕ) → 256 ≤ s → cell_of t s a ≡ suc p → p < length t.heads
  production_inside a p s big c = (ll.decides.picks s a p big c).0

  pub going_production : (a p s : ℕ) (old qs ss : List ℕ) → Expands t a old qs (s ∷ ss) → 256 ≤ s → cell_of t s a ≡ suc p → Expands t a old (qs ++ p ∷ []) ((grammar_of t).body p ++ ss)
  going_production a p s old qs ss h big c =
      let k = ll.decides.picks s a p big c in
      record {
        leads = leads_production (grammar_of t) (cell_of t) (follow_of t) ll.decides a p s old qs ss h.leads h.linked big c;
        linked = linked_production (grammar_of t) (cell_of t) (follow_of t) ll.decides p s ss k.0 k.1 h.linked;
        can_end = tail_production (grammar_of t) (witness_of t) (rank_of t) ll.completes p ss k.0 h.can_end;
      }

  pub size_falls : (a p s : ℕ) (ss : List ℕ) → 256 ≤ s → cell_of t s a ≡ suc p → Size t ((grammar_of t).body p ++ ss) < Size t (s ∷ ss)
  size_falls a p s ss big c =
      let k = ll.decides.picks s a p big c in
      steps_fall (grammar_of t) (cost_of t) (nullable_of t) t.per_token ll.linear p s ss k.0 k.1

  pub going_token : (a k : ℕ) (old qs ss : List ℕ) → Expands t a old qs (k ∷ ss) → k < 256 → MatchTop t a old qs ss (Token k)
  going_token a k old qs ss h small = (small, h.leads, (h.linked.1, h.can_end))

  pub going_stuck : (a s : ℕ) (old qs new ss : List ℕ) → Expands t a old qs (s ∷ ss) → 256 ≤ s → cell_of t s a ≡ 0 → MatchTop t a old qs new Stuck
  going_stuck a s old qs new ss h big c = λ ps us e d.
      let w = h.leads.whole ps us e d in no_production (grammar_of t) (cell_of t) (follow_of t) ll.decides s a ss w.0 us h.linked big c e w.2

pub nothing : (xs : List ℕ) (n : ℕ) → n ≡ length xs → n ≡ 0 → xs ≡ []
nothing [] n e z = refl
nothing (x ∷ xs) n e z = absurd (omega (arith, e, z, length-cons x xs))
  where
    length-cons : (y : ℕ) (ys : List ℕ) → length (y ∷ ys) ≡ suc (length ys)
    length-cons y ys = refl

pub longer : (old now qs : List ℕ) (first : List ℕ) (p : ℕ) → now ≡ first ++ qs → old ≡ now ++ p ∷ [] → old ≡ first ++ (qs ++ p ∷ [])
longer old now qs first p e f = f ∙ ap (λ x. x ++ p ∷ []) e ∙ append_assoc first qs (p ∷ [])

-- the start symbol's productions, few as they are
pub few : (t : Lists) → IsLl t → (tokens productions : List ℕ) → Parses (grammar_of t) tokens productions → length productions ≤ most_productions t (length tokens)
few t ll tokens productions d =
    let h = few_productions (grammar_of t) (cost_of t) (nullable_of t) t.per_token ll.linear d in omega (arith, h)
