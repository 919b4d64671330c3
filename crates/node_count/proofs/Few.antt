-- Where a table passes the test, the actions of a text make no more nodes than the text has tokens, and one.
use Rattle.std.proofs.Common.{◌≡◌, ℕ, suc, zero, ◌+◌, ◌<◌, ◌≤◌, Bool, true, cond, ◌&&◌, List, [], ◌∷◌, ◌++◌, length, get_or, nat_lt, nat_le, refl, sym, ap, subst, arith}
use Rattle.std.proofs.lemmas.Bool.{and_parts, leb-true, ltb-true, lt-ltb, le-ltb}
use Rattle.ll_parse.specs.Conditions.{IsLl}
use Rattle.ll_parse.specs.Grammar.{Derives, Parses}
use Rattle.ll_parse.specs.Grammar.Derives.{done, token, production}
use Rattle.ll_parse.specs.Tables.{Lists, grammar_of}
use Rattle.ll_parse.specs.Test.{all_below, body_of}
use Rattle.ll_parse.proofs.Check.{all_below_at}
use Rattle.ll_actions.proofs.StepsAt.{steps_at, steps_token, steps_production}
use Rattle.ll_actions.specs.declared.step.Step.{Step}
use Rattle.ll_actions.specs.Steps.{marked}
use Rattle.node_depth.specs.declared.weave.Weave.{Weave}
use Rattle.node_count.specs.Counts.{nodes_of, spare_of, spares_of, owed, owed_of, is_production_few, are_few, CountLaw}
use Rattle.node_count.proofs.Sizes.{nodes_of_steps, size_woven}

spares_append : (spare xs ys : List ℕ) → spares_of spare (xs ++ ys) ≡ spares_of spare xs + spares_of spare ys
spares_append spare [] ys = omega arith
spares_append spare (x ∷ xs) ys = let h = spares_append spare xs ys in omega (arith, h)

owed_append : (xs ys : List ℕ) → owed_of (xs ++ ys) ≡ owed_of xs + owed_of ys
owed_append [] ys = omega arith
owed_append (x ∷ xs) ys = let h = owed_append xs ys in omega (arith, h)

abbrev paid : Bool → ℕ
paid b = cond b 1 3

owed_token : (k : ℕ) → k < 256 → owed k ≡ 1
owed_token k small = ap paid (lt-ltb k 256 small)

owed_nonterminal : (s : ℕ) → 256 ≤ s → owed s ≡ 3
owed_nonterminal s big = ap paid (le-ltb s 256 big)

nodes_marked : (ws : List Weave) (m i : ℕ) (ss : List Step) → nodes_of_steps ws (marked m i ss) ≡ nodes_of ws m + nodes_of_steps ws ss
nodes_marked ws zero i ss = omega arith
nodes_marked ws (suc a) i ss = refl

module _ (t : Lists) (ll : IsLl t) (marks : List ℕ) (ws : List Weave) (spare : List ℕ) (few : are_few t marks ws spare ≡ true) where
  parts : ((nat_lt 255 t.start && nat_le (spare_of spare t.start) 4) ≡ true) × (all_below (length t.heads) (is_production_few t marks ws spare) ≡ true)
  parts = and_parts (nat_lt 255 t.start && nat_le (spare_of spare t.start) 4) (all_below (length t.heads) (is_production_few t marks ws spare)) few

  production_few : (p : ℕ) → p < length t.heads → nodes_of ws (get_or marks p 0) + spares_of spare (body_of t p) + 3 ≤ spare_of spare (get_or t.heads p 0) + owed_of (body_of t p)
  production_few p l = leb-true _ _ (all_below_at (length t.heads) (is_production_few t marks ws spare) parts.1 p l)

  goes : (ss ps ts : List ℕ) → Derives (grammar_of t) ss ps ts → (i : ℕ) → nodes_of_steps ws (steps_at (grammar_of t) marks i ss ps) + owed_of ss ≤ spares_of spare ss + length ts
  goes _ _ _ done i = omega arith
  goes _ _ _ (token {k = k} {ss = ss} {ps = ps} {ts = ts} small d) i =
      let h = goes ss ps ts d (suc i) in
      let e = ap (nodes_of_steps ws) (steps_token (grammar_of t) marks i k ss ps small) in
      let a = owed_token k small in
      omega (arith, h, e, a)
  goes _ _ _ (production {s = s} {ss = ss} {ts = ts} p ps inside is allowed d) i =
      let big : 256 ≤ s = subst (λ x. 256 ≤ x) (sym is) (ll.decides.heads p inside) in
      let h = goes (body_of t p ++ ss) ps ts d i in
      let e = ap (nodes_of_steps ws) (steps_production (grammar_of t) marks i s p ss ps big) in
      let m = nodes_marked ws (get_or marks p 0) i (steps_at (grammar_of t) marks i (body_of t p ++ ss) ps) in
      let a = owed_nonterminal s big in
      let f = production_few p inside in
      let g = ap (spare_of spare) is in
      let x = spares_append spare (body_of t p) ss in
      let y = owed_append (body_of t p) ss in
      omega (arith, h, e, m, a, f, g, x, y)

  pub few_steps : (ts ps : List ℕ) → Parses (grammar_of t) ts ps → nodes_of_steps ws (steps_at (grammar_of t) marks 0 (t.start ∷ []) ps) ≤ length ts + 1
  few_steps ts ps d =
      let h = goes (t.start ∷ []) ps ts d 0 in
      let w = and_parts (nat_lt 255 t.start) (nat_le (spare_of spare t.start) 4) parts.0 in
      let big = ltb-true 255 t.start w.0 in
      let a = owed_nonterminal t.start (omega (arith, big)) in
      let b = leb-true (spare_of spare t.start) 4 w.1 in
      omega (arith, h, a, b)

pub count_law : CountLaw
count_law t marks ws spare ll few ts ps parses l woven =
    let h = few_steps t ll marks ws spare few ts ps parses in
    let e = size_woven ws (steps_at (grammar_of t) marks 0 (t.start ∷ []) ps) l woven in
    omega (arith, h, e)
