-- What resolving a conflict back to the empty clause keeps.
use Rattle.std.proofs.Common.{◌≡◌, ℕ, ◌+◌, ◌<◌, ◌≤◌, true, false, inl, inr, List, [], ◌∷◌, ◌++◌, length, take, get_or, Some, refl, sym, ap, ◌∙◌, subst, arith, length-append}
use Rattle.std.specs.Option.{ForSome, IsSomeAnd}
use Rattle.std.proofs.lemmas.Bool.{cases_lt}
use Rattle.std.proofs.Math.Seq.{take-length}
use Rattle.clause_arena.specs.declared.Lit.{Lit}
use Rattle.clause_arena.specs.declared.ClauseId.{ClauseId}
use Rattle.clause_arena.specs.Clause.{Clause, Clauses, clause_at, opposite, has, is_same, resolve}
use Rattle.res_log.specs.declared.ChainStep.{ChainStep}
use Rattle.res_log.specs.Log.{chain}
use Rattle.res_log.proofs.Same.{is_same-refl}
use Rattle.res_log.specs.Partial.{is_false}
use Rattle.cdcl.proofs.Back.{zero_lit, chain-next, take-back, false-skip, false-subset}
use Rattle.cdcl.proofs.Parts.{some-and, Some-is}

pub record Empties (arena : Clauses) (trail : List Lit) (conflict : ClauseId) (steps : List ChainStep) (current : Clause) (i : ℕ) : Type 0 where
  pub upper : i ≤ length trail
  pub exact : ForSome (clause_at arena conflict.0) (λ c. IsSomeAnd (chain (clause_at arena) steps c) (λ r. is_same r current ≡ true))
  pub falsified : is_false (take i trail) current ≡ true
  pub begun : length steps ≡ 0 → 0 < length current

pub empties-start : (arena : Clauses) (trail : List Lit) (conflict : ClauseId) (steps : List ChainStep) (lits current : Clause) → clause_at arena conflict.0 ≡ Some lits → current ≡ lits → steps ≡ [] → is_false trail lits ≡ true → 0 < length lits → Empties arena trail conflict steps current (length trail)
empties-start arena trail conflict steps lits current e f g h t = record {
  upper = omega arith;
  exact = λ c q.
      some-and (chain (clause_at arena) steps c) (λ r. is_same r current ≡ true) c (ap (λ (xs : List ChainStep). chain (clause_at arena) xs c) g)
      (ap (λ (x : Clause). is_same x current) (Some-is _ _ (sym q ∙ e) ∙ sym f) ∙ is_same-refl current);
  falsified = ap (λ (p : List Lit). is_false p current) (take-length trail) ∙ ap (is_false trail) f ∙ h;
  begun = λ n. subst (λ (x : Clause). 0 < length x) (sym f) t;
}

pub empties-skip : (arena : Clauses) (trail : List Lit) (conflict : ClauseId) (steps : List ChainStep) (current : Clause) (i n : ℕ) → i ≡ n + 1 → has current (opposite (get_or trail n zero_lit)) ≡ false → Empties arena trail conflict steps current i → Empties arena trail conflict steps current n
empties-skip arena trail conflict steps current i n e h g = record {
  upper = omega (arith, g.upper);
  exact = g.exact;
  falsified = false-skip (take n trail) (get_or trail n zero_lit) current (ap (λ (p : List Lit). is_false p current) (take-back trail i n e g.upper) ∙ g.falsified) h;
  begun = g.begun;
}

pub empties-next : (arena : Clauses) (trail : List Lit) (conflict : ClauseId) (steps : List ChainStep) (current next : Clause) (i n : ℕ) (step : ChainStep) (e w : Clause) → i ≡ n + 1 → clause_at arena step.clause.0 ≡ Some e → resolve current e step.pivot ≡ Some w → ((m : Lit) → has next m ≡ has w m) → is_false (take n trail) w ≡ true → Empties arena trail conflict steps current i → Empties arena trail conflict (steps ++ step ∷ []) next n
empties-next arena trail conflict steps current next i n step e w k a b s f g = record {
  upper = omega (arith, g.upper);
  exact = λ c q. chain-next (clause_at arena) steps step c current e w next (g.exact c q) a b s;
  falsified = false-subset (take n trail) w next (λ m h. sym (s m) ∙ h) f;
  begun = λ z. absurd (omega (arith, length-append steps (step ∷ []), z));
}

false-nil : (c : Clause) → is_false [] c ≡ true → c ≡ []
false-nil [] h = refl
false-nil (x ∷ xs) h = cc

pub empties-end : (arena : Clauses) (trail : List Lit) (conflict : ClauseId) (steps : List ChainStep) (current : Clause) (i : ℕ) → i ≤ 0 → Empties arena trail conflict steps current i → current ≡ []
empties-end arena trail conflict steps current i l g =
    false-nil current (ap (λ (n : ℕ). is_false (take n trail) current) (let e : 0 ≡ i = omega arith in e) ∙ g.falsified)

pub empties-some : (arena : Clauses) (trail : List Lit) (conflict : ClauseId) (steps : List ChainStep) (current : Clause) (i : ℕ) → i ≤ 0 → Empties arena trail conflict steps current i → 0 < length steps
empties-some arena trail conflict steps current i l g =
    elim (cases_lt 0 (length steps)) [
      | inl h ↦ h
      | inr h ↦
          let e : length current ≡ 0 = ap length (empties-end arena trail conflict steps current i l g) in
          absurd (omega (arith, g.begun (let z : length steps ≡ 0 = omega arith in z), e))
    ]
