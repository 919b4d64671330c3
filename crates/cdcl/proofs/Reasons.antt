-- A step back along the trail: the clause so far is resolved with the reason of the newest literal.
use Rattle.std.proofs.Common.{◌≡◌, ℕ, ◌+◌, ◌-◌, ◌<◌, ◌≤◌, ltb, Bool, true, false, inl, inr, List, [], ◌∷◌, ◌++◌, length, take, get_or, Some, None, sym, ap, ◌∙◌, subst, arith}
use Rattle.std.specs.Option.{is_some}
use Rattle.std.proofs.lemmas.Bool.{both_ways, lt-ltb, cases_lt, cases_eq, or_left, false≢true}
use Rattle.clause_arena.specs.declared.Lit.{Lit}
use Rattle.clause_arena.specs.declared.ClauseId.{ClauseId}
use Rattle.clause_arena.specs.Clause.{Clause, Clauses, clause_at, opposite, has, without, resolve, is_below}
use Rattle.clause_arena.proofs.Sets.{has-append, list_all-at, list_all-from_has}
use Rattle.res_log.specs.declared.ChainStep.{ChainStep}
use Rattle.res_log.specs.Partial.{is_false, is_forced}
use Rattle.cdcl.specs.Trail.{IsConsistent, IsReasoned, Reasons, AreForcedFrom}
use Rattle.cdcl.proofs.Parts.{some-parts, Some-is}
use Rattle.cdcl.proofs.Forced.{forced-resolve, forced-false}
use Rattle.cdcl.proofs.Back.{zero_lit, get_or-any, take-back, fits-newest, GoesBack, first-others, next-back}
use Rattle.cdcl.proofs.Empty.{Empties, empties-next}
use Rattle.cdcl.proofs.Gains.{has-take}
use Rattle.cdcl.proofs.Arrays.{below-at}

-- what the clause so far is resolved with, and the result
pub record Resolved (arena : Clauses) (trail : List Lit) (n : ℕ) (id : ClauseId) (current : Clause) (x : Lit) : Type 0 where
  pub reason : Clause
  pub is : clause_at arena id.0 ≡ Some reason
  pub result : resolve current reason x.var ≡ Some (without x.var current ++ without x.var reason)
  pub falsified : is_false (take n trail) (without x.var current ++ without x.var reason) ≡ true

pub reason-step : (arena : Clauses) (trail : List Lit) (rs : Reasons) (i n : ℕ) (id : ClauseId) (current : Clause) (x : Lit) → IsConsistent trail → IsReasoned arena trail rs → i ≡ n + 1 → i ≤ length trail → x ≡ get_or trail n zero_lit → get_or rs n None ≡ Some id → is_false (take i trail) current ≡ true → has current (opposite (get_or trail n zero_lit)) ≡ true → Resolved arena trail n id current x
reason-step arena trail rs i n id current x h s k l q e f a =
    let b : n < length trail = omega arith in
    let w = some-parts (clause_at arena id.0) (λ c. is_forced (take n trail) (get_or trail n zero_lit) c ≡ true) (s n None zero_lit b id e) in
    let fit = fits-newest trail n h b in
    let g : is_false (take n trail ++ get_or trail n zero_lit ∷ []) current ≡ true = ap (λ (p : List Lit). is_false p current) (take-back trail i n k l) ∙ f in
    subst (Resolved arena trail n id current) (sym q)
    (record {
      reason = w.0;
      is = w.1;
      result = forced-resolve (take n trail) (get_or trail n zero_lit) current w.0 fit g a w.2;
      falsified = forced-false (take n trail) (get_or trail n zero_lit) current w.0 g w.2;
    })

-- the newest literal
pub newest-is : (trail : List Lit) (i : ℕ) (x : Lit) → x ≡ get_or trail (i - 1) x → 0 < i → i ≤ length trail → x ≡ get_or trail (i - 1) zero_lit
newest-is trail i x e l b = e ∙ get_or-any trail (i - 1) x zero_lit (omega arith)

-- what a test of the other literals says
pub others-test : (p : List Lit) (x y : Lit) (current d : Clause) (b : Bool) → d ≡ current → x ≡ y → b ≡ is_false p (without x.var d) → is_false p (without y.var current) ≡ b
others-test p x y current d b e f g =
    ap (λ (z : Lit). is_false p (without z.var current)) (sym f) ∙ ap (λ (c : Clause). is_false p (without x.var c)) (sym e) ∙ sym g

pub keeps-others : (v : ℕ) (c r : Clause) (m : Lit) → has (without v c) m ≡ true → has (without v c ++ without v r) m ≡ true
keeps-others v c r m h = has-append (without v c) (without v r) m ∙ or_left _ _ h

-- what a test of the newest literal says
pub lit-test : (current d : Clause) (x l n : Lit) (b : Bool) → d ≡ current → x ≡ l → n ≡ opposite x → b ≡ has d n → has current (opposite l) ≡ b
lit-test current d x l n b e q f g = ap (λ (y : Lit). has current (opposite y)) (sym q) ∙ ap (has current) (sym f) ∙ ap (λ (x : Clause). has x n) (sym e) ∙ sym g

-- a clause that is false holds variables of the trail alone
pub false-below : (n : ℕ) (p : List Lit) (c : Clause) → is_below n p ≡ true → is_false p c ≡ true → (m : Lit) → has c m ≡ true → m.var < n
false-below n p c b f m h = below-at n p (opposite m) b (list_all-at (λ x. has p (opposite x)) c f m h)

pub less : (i start : ℕ) → start < i → i ≡ (i - 1) + 1
less i start h = omega arith

pub no-reason : (trail : List Lit) (rs : Reasons) (start i : ℕ) (current : Clause) → start < i → i ≤ length trail → length rs ≡ length trail → get_or rs (i - 1) None ≡ None → AreForcedFrom rs (start + 1) → is_false (take i trail) current ≡ true → is_false (take start trail) (without (get_or trail (i - 1) zero_lit).var current) ≡ false → ⊥
no-reason trail rs start i current l b n e f h g =
    elim (cases_eq start (i - 1)) [
      | inl q ↦ both_ways _ g (ap (λ (k : ℕ). is_false (take k trail) (without (get_or trail (i - 1) zero_lit).var current)) q ∙ first-others trail i (i - 1) current (less i start l) b h)
      | inr q ↦ false≢true (sym (ap is_some e) ∙ f (i - 1) None (omega arith) (omega arith))
    ]

pub no-decision : (rs : Reasons) (n : ℕ) → n < length rs → get_or rs n None ≡ None → AreForcedFrom rs 0 → ⊥
no-decision rs n l e f = false≢true (sym (ap is_some e) ∙ f n None (omega arith) l)

-- at least one step was taken
pub back-some : (arena : Clauses) (trail : List Lit) (start : ℕ) (conflict : ClauseId) (steps : List ChainStep) (lits current : Clause) (i v : ℕ) → clause_at arena conflict.0 ≡ Some lits → ((v : ℕ) → is_false (take start trail) (without v lits) ≡ false) → is_false (take start trail) (without v current) ≡ true → GoesBack arena trail start conflict steps current i → 0 < length steps
back-some arena trail start conflict steps lits current i v e two h g =
    elim (cases_lt 0 (length steps)) [
      | inl l ↦ l
      | inr l ↦
          let q : lits ≡ current = g.begun (let z : length steps ≡ 0 = omega arith in z) lits e in
          absurd (both_ways _ (two v) (ap (λ (c : Clause). is_false (take start trail) (without v c)) q ∙ h))
    ]

-- one step more, by what the calls ensure
pub back-step : (arena : Clauses) (trail : List Lit) (start : ℕ) (conflict : ClauseId) (steps more : List ChainStep) (current view next lits : Clause) (i : ℕ) (id : ClauseId) (x : Lit)
    → start < i → view ≡ current → more ≡ steps ++ record { clause = id; pivot = x.var } ∷ [] → clause_at arena id.0 ≡ Some lits
    → ((m : Lit) → has next m ≡ has (without x.var view ++ without x.var lits) m) → is_false (take start trail) (without x.var current) ≡ false
    → Resolved arena trail (i - 1) id current x → GoesBack arena trail start conflict steps current i → GoesBack arena trail start conflict more next (i - 1)
back-step arena trail start conflict steps more current view next lits i id x l e f k s o r g =
    let q : lits ≡ r.reason = Some-is _ _ (sym k ∙ r.is) in
    let step : ChainStep = record { clause = id; pivot = x.var } in
    subst (λ (xs : List ChainStep). GoesBack arena trail start conflict xs next (i - 1)) (sym f)
    (next-back arena trail start conflict steps current next i (i - 1) step r.reason (without x.var current ++ without x.var r.reason) (less i start l) l r.is r.result
    (λ m. s m ∙ ap (λ (c : Clause). has (without x.var c ++ without x.var lits) m) e ∙ ap (λ (c : Clause). has (without x.var current ++ without x.var c) m) q)
    r.falsified (keeps-others x.var current r.reason) o g)

pub empty-step : (arena : Clauses) (trail : List Lit) (conflict : ClauseId) (steps more : List ChainStep) (current view next lits : Clause) (i : ℕ) (id : ClauseId) (x : Lit)
    → 0 < i → view ≡ current → more ≡ steps ++ record { clause = id; pivot = x.var } ∷ [] → clause_at arena id.0 ≡ Some lits
    → ((m : Lit) → has next m ≡ has (without x.var view ++ without x.var lits) m)
    → Resolved arena trail (i - 1) id current x → Empties arena trail conflict steps current i → Empties arena trail conflict more next (i - 1)
empty-step arena trail conflict steps more current view next lits i id x l e f k s r g =
    let q : lits ≡ r.reason = Some-is _ _ (sym k ∙ r.is) in
    let step : ChainStep = record { clause = id; pivot = x.var } in
    subst (λ (xs : List ChainStep). Empties arena trail conflict xs next (i - 1)) (sym f)
    (empties-next arena trail conflict steps current next i (i - 1) step r.reason (without x.var current ++ without x.var r.reason) (less i 0 l) r.is r.result
    (λ m. s m ∙ ap (λ (c : Clause). has (without x.var c ++ without x.var lits) m) e ∙ ap (λ (c : Clause). has (without x.var current ++ without x.var c) m) q)
    r.falsified g)

pub false-take : (p : List Lit) (i : ℕ) (c : Clause) → is_false (take i p) c ≡ true → is_false p c ≡ true
false-take p i c f = list_all-from_has (λ m. has p (opposite m)) c (λ m h. has-take p i (opposite m) (list_all-at (λ m. has (take i p) (opposite m)) c f m h))

pub all-below : (n : ℕ) (p : List Lit) (c : Clause) → is_below n p ≡ true → is_false p c ≡ true → is_below n c ≡ true
all-below n p c b f = list_all-from_has (λ m. ltb m.var n) c (λ m h. lt-ltb _ _ (false-below n p c b f m h))
