-- The solver's answers.
use Rattle.std.proofs.Common.{◌≡◌, ℕ, ◌+◌, ◌-◌, ◌*◌, ◌<◌, ◌≤◌, ◌^◌, ◌⊎◌, inl, inr, true, List, [], ◌∷◌, length, Option, Some, None, refl, sym, ap, ◌∙◌, subst, arith, length-append}
use Rattle.std.proofs.lemmas.Bool.{not_from_false, ne_eqb}
use Rattle.clause_arena.specs.declared.ClauseId.{ClauseId}
use Rattle.clause_arena.specs.Clause.{Clause, Clauses, clause_at, is_same, is_below}
use Rattle.res_log.specs.Step.{Step}
use Rattle.res_log.specs.Log.{input}
use Rattle.res_log.specs.Partial.{is_open}
use Rattle.res_log.proofs.Same.{is_same-refl}
use Rattle.cdcl.specs.declared.trail.Trail.{Trail}
use Rattle.cdcl.specs.Trail.{AllClauses, State}
use Rattle.cdcl.specs.Held.{vars_of, reasons_of, IsKept, Spreads}
use Rattle.cdcl.specs.Grown.{Grows, IsLearned, IsRefuted}
use Rattle.cdcl.specs.Turn.{GoesOn, Decides}
use Rattle.cdcl.specs.Answer.{SameClause, IsLogOver, IsRefutation, IsSpent, Keeps}
use Rattle.cdcl.proofs.Parts.{Some-is}
use Rattle.cdcl.proofs.Spread.{get_or-new}
use Rattle.cdcl.proofs.Solves.{Searching, searching-start, learned-grown, refuted-grows, solving-learn, searching-decides, decides-smaller, learned-smaller, searching-keeps}
use Rattle.cdcl.proofs.Keeping.{keeps-then}
use Rattle.cdcl.proofs.Walk.{growth_law, spent_law, log-results-open, ends-empty}

same-clause : (o p : Option Clause) → o ≡ p → SameClause o p
same-clause None None e = tt
same-clause None (Some y) e = cc
same-clause (Some x) None e = cc
same-clause (Some x) (Some y) e = subst (λ (z : Clause). is_same x z ≡ true) (Some-is x y e) (is_same-refl x)

pub log-over : (old new : Clauses) (log : List Step) → Grows old log new → IsLogOver old new log
log-over old new log g =
    let w = growth_law old new log g in
    record { valid = w.0; gaining = w.1; inputs = λ id. same-clause (input new log id) (clause_at old id) (w.2 id) }

-- an input is empty
pub refuted-at-once : (old : Clauses) (budget : ℕ) → ((id : ℕ) × (clause_at old id ≡ Some [])) → IsRefutation old old budget []
refuted-at-once old budget e = record { shown = log-over old old [] refl; ends = e; within = omega arith }

pub refutation-is : (old arena more : Clauses) (log longer : List Step) (vars budget : ℕ) (t : Trail) → IsRefuted arena log more longer → Searching old arena log vars budget t → IsRefutation old more budget longer
refutation-is old arena more log longer vars budget t w h =
    let g = refuted-grows old arena more log longer vars budget t.lits.items (reasons_of t) w h.solving in
    let n : length longer ≡ length log + 1 = ap length w.2 ∙ length-append log (w.0 ∷ []) in
    let k : length old + (length longer - 1) ≡ length arena = omega (arith, h.solving.size) in
    record {
      shown = log-over old more longer g.0;
      ends = ends-empty old more longer g.0 (omega arith) (ap (clause_at more) k ∙ ap (λ (x : Clauses). clause_at x (length arena)) w.1 ∙ get_or-new arena (Some []) None);
      within = omega (arith, h.solving.left);
    }

pub spent-is : (old arena more : Clauses) (log longer : List Step) (vars budget : ℕ) (t : Trail) → IsLearned vars arena log more longer → length longer ≡ budget → Searching old arena log vars budget t → IsSpent old more budget longer
spent-is old arena more log longer vars budget t w e h =
    let g = learned-grown old arena more log longer vars budget t.lits.items (reasons_of t) w h.solving in
    record { shown = log-over old more longer g.0.grows; none_empty = log-results-open old more longer g.0.grows g.0.none_empty; exact = e }

pub never-spent : (old arena more : Clauses) (log longer : List Step) (vars budget : ℕ) (t : Trail) → IsLearned vars arena log more longer → length longer ≡ budget → AllClauses (is_below vars) old → 3 ^ vars ≤ budget → Searching old arena log vars budget t → ⊥
never-spent old arena more log longer vars budget t w e b l h =
    let g = learned-grown old arena more log longer vars budget t.lits.items (reasons_of t) w h.solving in
    omega (arith, e, l, spent_law old more longer vars g.0.grows b g.0.none_empty)

-- after a clause was learned
pub searching-learn : (old arena more : Clauses) (log longer : List Step) (vars budget : ℕ) (t u : Trail) → IsLearned vars arena log more longer → IsKept more u → vars_of u ≡ vars → (length longer ≡ budget → ⊥) → Searching old arena log vars budget t → Searching old more longer vars budget u
searching-learn old arena more log longer vars budget t u w k v n h = record {
  solving =
      solving-learn old arena more log longer vars budget t.lits.items u.lits.items (reasons_of t) (reasons_of u) w
      (subst (λ (m : ℕ). State more m u.lits.items (reasons_of u)) v k) n h.solving;
  vars_is = v;
}

-- the clause that was learned, under its id
pub learned-at : (arena more : Clauses) (log longer : List Step) (vars : ℕ) (id : ClauseId) (w : IsLearned vars arena log more longer) → id.0 ≡ length arena → clause_at more id.0 ≡ Some w.0
learned-at arena more log longer vars id w e = ap (clause_at more) e ∙ ap (λ (x : Clauses). clause_at x (length arena)) w.2 ∙ get_or-new arena (Some w.0) None

pub learned-below : (arena more : Clauses) (log longer : List Step) (vars n : ℕ) (id : ClauseId) (lits : Clause) → IsLearned vars arena log more longer → id.0 ≡ length arena → clause_at more id.0 ≡ Some lits → n ≡ vars → is_below n lits ≡ true
learned-below arena more log longer vars n id lits w e f q =
    let c : w.0 ≡ lits = Some-is _ _ (sym (learned-at arena more log longer vars id w e) ∙ f) in
    subst (λ (k : ℕ). is_below k lits ≡ true) (sym q) (subst (λ (x : Clause). is_below vars x ≡ true) c w.7)

learned-vars : (n m : ℕ) (arena more : Clauses) (log longer : List Step) → n ≡ m → IsLearned n arena log more longer → IsLearned m arena log more longer
learned-vars n m arena more log longer e w = subst (λ (k : ℕ). IsLearned k arena log more longer) e w

-- after a turn that goes on
pub searching-turn : (old arena more : Clauses) (log longer : List Step) (vars budget : ℕ) (t u : Trail) → GoesOn arena log t more longer u budget ⊎ Decides arena log t more longer u → Searching old arena log vars budget t → Searching old more longer vars budget u
searching-turn old arena more log longer vars budget t u (inl w) h =
    searching-learn old arena more log longer vars budget t u (learned-vars (vars_of t) vars arena more log longer h.vars_is w.learned) w.kept (w.vars ∙ h.vars_is) w.left h
searching-turn old arena more log longer vars budget t u (inr w) h = searching-decides old arena more log longer vars budget t u w h

pub turn-smaller : (old arena more : Clauses) (log longer : List Step) (vars budget : ℕ) (t u : Trail) → GoesOn arena log t more longer u budget ⊎ Decides arena log t more longer u → Searching old arena log vars budget t → (budget - length longer) * (vars + 1) + (vars - length u.lits.items) < (budget - length log) * (vars + 1) + (vars - length t.lits.items)
turn-smaller old arena more log longer vars budget t u (inl w) h =
    learned-smaller old arena more log longer vars budget t u (learned-vars (vars_of t) vars arena more log longer h.vars_is w.learned) h
turn-smaller old arena more log longer vars budget t u (inr w) h = decides-smaller old arena more log longer vars budget t u w h

pub spent-turn : (old arena more : Clauses) (log longer : List Step) (vars budget : ℕ) (t : Trail) → IsLearned (vars_of t) arena log more longer × (length longer ≡ budget) → Searching old arena log vars budget t → IsSpent old more budget longer
spent-turn old arena more log longer vars budget t w h =
    spent-is old arena more log longer vars budget t (learned-vars (vars_of t) vars arena more log longer h.vars_is w.0) w.1 h

pub never-spent-turn : (old arena more : Clauses) (log longer : List Step) (vars budget : ℕ) (t : Trail) → IsLearned (vars_of t) arena log more longer × (length longer ≡ budget) → AllClauses (is_below vars) old → 3 ^ vars ≤ budget → Searching old arena log vars budget t → ⊥
never-spent-turn old arena more log longer vars budget t w b l h =
    never-spent old arena more log longer vars budget t (learned-vars (vars_of t) vars arena more log longer h.vars_is w.0) w.1 b l h

pub keeps-turn : (old arena more : Clauses) (log : List Step) (vars budget : ℕ) (t : Trail) → Keeps arena more → Searching old arena log vars budget t → Keeps old more
keeps-turn old arena more log vars budget t k h = keeps-then old arena more (searching-keeps old arena log vars budget t h) k

-- a first answer, by what the calls ensure
pub refuted-first : (old : Clauses) (budget : ℕ) (log : List Step) → log ≡ [] → ((id : ℕ) × (clause_at old id ≡ Some [])) → IsRefutation old old budget log
refuted-first old budget log e h = subst (IsRefutation old old budget) (sym e) (refuted-at-once old budget h)

pub open-from : (arena : Clauses) → (((id : ℕ) × (clause_at arena id ≡ Some [])) → ⊥) → AllClauses is_open arena
open-from arena f id [] e = absurd (f (id, e))
open-from arena f id (x ∷ xs) e = not_from_false _ (ne_eqb (length (x ∷ xs)) 0 (λ q. omega (arith, q)))

-- a trail that forced literals made longer
pub searching-spread : (old arena : Clauses) (log : List Step) (vars budget : ℕ) (t u : Trail) → Spreads arena t u → Searching old arena log vars budget t → Searching old arena log vars budget u
searching-spread old arena log vars budget t u s h =
    let e : vars_of u ≡ vars = s.vars ∙ h.vars_is in record {
      solving = record {
        grows = h.solving.grows;
        size = h.solving.size;
        left = h.solving.left;
        below = h.solving.below;
        none_empty = h.solving.none_empty;
        state = subst (λ (n : ℕ). State arena n u.lits.items (reasons_of u)) e s.kept;
      };
      vars_is = e;
    }

-- the search begins where each clause is watched
pub searching-begun : (arena : Clauses) (vars budget : ℕ) (t u : Trail) (log : List Step) → AllClauses (is_below vars) arena → 0 < budget → AllClauses is_open arena → log ≡ [] → t.lits.items ≡ [] → vars_of t ≡ vars → Spreads arena t u → Searching arena arena log vars budget u
searching-begun arena vars budget t u log b l o n e v s =
    subst (λ (x : List Step). Searching arena arena x vars budget u) (sym n) (searching-spread arena arena [] vars budget t u s (searching-start arena vars budget t b l o e v))
