-- What the solver's search keeps.
use Rattle.std.proofs.Common.{◌≡◌, ℕ, suc, ◌+◌, ◌-◌, ◌*◌, ◌<◌, ◌≤◌, ltb, Bool, true, false, not, ◌&&◌, inl, inr, List, [], ◌∷◌, ◌++◌, length, take, get_or, Option, Some, None, refl, sym, ap, ◌∙◌, subst, arith, length-append}
use Rattle.std.specs.List.{list_any}
use Rattle.std.specs.Option.{MatchOption}
use Rattle.std.proofs.lemmas.Bool.{and_parts, and_from, or_cases, both_ways, false_from_ne_true, cases_lt, ltb-true, lt-ltb}
use Rattle.std.proofs.lemmas.List.Folds.{list_all-append}
use Rattle.std.proofs.Math.Seq.{take-length}
use Rattle.std.proofs.Math.Nat.{suc-mul}
use Rattle.clause_arena.specs.declared.Lit.{Lit}
use Rattle.clause_arena.specs.declared.ClauseId.{ClauseId}
use Rattle.clause_arena.specs.Clause.{Clause, Clauses, clause_at, lit, has, lit_eq, bool_eq, is_same, is_below, value_of, satisfies}
use Rattle.res_log.specs.Step.{Step}
use Rattle.res_log.specs.Partial.{is_quiet, is_free, is_true, has_two_free, is_open}
use Rattle.cdcl.specs.Trail.{State, Reasons, AllClauses, IsConsistent, IsReasoned, IsComplete}
use Rattle.cdcl.specs.Grown.{Grows, IsLearned, IsRefuted, Derives, IsGained}
use Rattle.clause_arena.proofs.Sets.{passing, list_all-at, list_any-from_has}
use Rattle.cdcl.specs.declared.trail.Trail.{Trail}
use Rattle.cdcl.specs.Arrays.{reasons_along}
use Rattle.cdcl.specs.Held.{vars_of, reasons_of, IsKept, Spreads}
use Rattle.cdcl.specs.Turn.{Decides}
use Rattle.cdcl.proofs.Sweeps.{state-at, grown-push}
use Rattle.cdcl.specs.Answer.{Keeps, assignment, IsModel}
use Rattle.res_log.proofs.Same.{is_same-refl}
use Rattle.cdcl.proofs.Back.{var-cases}
use Rattle.cdcl.proofs.Forced.{opposite-opposite}
use Rattle.cdcl.proofs.Parts.{Some-None, Some-is, some-and}
use Rattle.cdcl.proofs.Spread.{get_or-old, get_or-new, take-old, consistent-push, Because, length-vars}
use Rattle.cdcl.proofs.Gains.{apart, clause-old, all-more}

pub record Solving (old : Clauses) (arena : Clauses) (log : List Step) (vars : ℕ) (budget : ℕ) (p : List Lit) (rs : Reasons) : Type 0 where
  pub grows : Grows old log arena
  pub size : length arena ≡ length old + length log
  pub left : length log < budget
  pub below : AllClauses (is_below vars) arena
  pub none_empty : AllClauses is_open arena
  pub state : State arena vars p rs

reasoned-decide : (arena : Clauses) (p : List Lit) (rs : Reasons) (l : Lit) → length rs ≡ length p → IsReasoned arena p rs → IsReasoned arena (p ++ l ∷ []) (rs ++ None ∷ [])
reasoned-decide arena p rs l n s k o x h i e =
    let m : length (p ++ l ∷ []) ≡ length p + 1 = length-append p (l ∷ []) in
    elim (cases_lt k (length p)) [
      | inl a ↦
          let b : k < length rs = omega arith in
          subst (λ (q : List Lit). Because arena q (get_or (p ++ l ∷ []) k x) i) (sym (take-old p l k (omega arith)))
          (subst (λ (y : Lit). Because arena (take k p) y i) (sym (get_or-old p l k x a)) (s k o x a i (sym (get_or-old rs None k o b) ∙ e)))
      | inr a ↦
          let v : k ≡ length rs = omega arith in
          absurd (Some-None i (sym e ∙ ap (λ (z : ℕ). get_or (rs ++ None ∷ []) z o) v ∙ get_or-new rs None o))
    ]

complete-decide : (arena : Clauses) (p : List Lit) (rs : Reasons) (l : Lit) → length rs ≡ length p → AllClauses (is_quiet p) arena → IsComplete arena p rs → IsComplete arena (p ++ l ∷ []) (rs ++ None ∷ [])
complete-decide arena p rs l n q s k o h e =
    let m : length (p ++ l ∷ []) ≡ length p + 1 = length-append p (l ∷ []) in
    elim (cases_lt k (length p)) [
      | inl a ↦
          let b : k < length rs = omega arith in
          subst (λ (y : List Lit). AllClauses (is_quiet y) arena) (sym (take-old p l k (omega arith))) (s k o a (sym (get_or-old rs None k o b) ∙ e))
      | inr a ↦
          let u : k ≡ length p = omega arith in
          let t : take k (p ++ l ∷ []) ≡ p = take-old p l k (omega arith) ∙ ap (λ (z : ℕ). take z p) u ∙ take-length p in
          subst (λ (y : List Lit). AllClauses (is_quiet y) arena) (sym t) q
    ]

pub state-decide : (arena : Clauses) (vars : ℕ) (p : List Lit) (rs : Reasons) (l : Lit) → AllClauses (is_quiet p) arena → is_free p l ≡ true → l.var < vars → State arena vars p rs → State arena vars (p ++ l ∷ []) (rs ++ None ∷ [])
state-decide arena vars p rs l q f v s = record {
  lengths = omega (arith, length-append p (l ∷ []), length-append rs (None ∷ []), s.lengths);
  below = list_all-append (λ x. ltb x.var vars) p (l ∷ []) ∙ and_from _ _ s.below (and_from _ _ (lt-ltb _ _ v) refl);
  consistent = consistent-push p l s.consistent f;
  reasoned = reasoned-decide arena p rs l s.lengths s.reasoned;
  complete = complete-decide arena p rs l s.lengths q s.complete;
}

pub grows-push : (log : List Step) (now mid : Clauses) (s : Step) (c : Clause) → Grows now log mid → Derives mid s c → IsGained mid c → Grows now (log ++ s ∷ []) (mid ++ Some c ∷ [])
grows-push [] now mid s c g d i =
    subst (λ (x : Clauses). Grows x (s ∷ []) (mid ++ Some c ∷ [])) (sym g) (c, d, i, refl)
grows-push (t ∷ ts) now mid s c g d i = (g.0, g.1, g.2, grows-push ts (now ++ Some g.0 ∷ []) mid s c g.3 d i)

pub grows-old : (log : List Step) (now end : Clauses) → Grows now log end → (id : ℕ) (c : Clause) → clause_at now id ≡ Some c → clause_at end id ≡ Some c
grows-old [] now end g id c e = ap (λ (x : Clauses). clause_at x id) (sym g) ∙ e
grows-old (t ∷ ts) now end g id c e = grows-old ts (now ++ Some g.0 ∷ []) end g.3 id c (clause-old now g.0 id c e)

-- what one learned clause leaves, but for the budget
pub record Grown (old : Clauses) (arena : Clauses) (log : List Step) (vars : ℕ) : Type 0 where
  pub grows : Grows old log arena
  pub size : length arena ≡ length old + length log
  pub below : AllClauses (is_below vars) arena
  pub none_empty : AllClauses is_open arena

pub learned-grown : (old arena more : Clauses) (log longer : List Step) (vars budget : ℕ) (p : List Lit) (rs : Reasons) → IsLearned vars arena log more longer → Solving old arena log vars budget p rs → Grown old more longer vars × (length longer ≡ length log + 1)
learned-grown old arena more log longer vars budget p rs w s =
    let c = w.0 in
    let t = w.1 in
    let n : length longer ≡ length log + 1 = ap length w.3 ∙ length-append log (t ∷ []) in
    let m : length more ≡ length arena + 1 = ap length w.2 ∙ length-append arena (Some c ∷ []) in (
      record {
        grows = subst (λ (x : Clauses). Grows old longer x) (sym w.2) (subst (λ (x : List Step). Grows old x (arena ++ Some c ∷ [])) (sym w.3) (grows-push log old arena t c s.grows w.4 w.5));
        size = omega (arith, m, n, s.size);
        below = subst (AllClauses (is_below vars)) (sym w.2) (all-more (is_below vars) arena c s.below w.7);
        none_empty = subst (AllClauses is_open) (sym w.2) (all-more is_open arena c s.none_empty w.6);
      },
      n,
    )

pub solving-learn : (old arena more : Clauses) (log longer : List Step) (vars budget : ℕ) (p q : List Lit) (rs ss : Reasons) → IsLearned vars arena log more longer → State more vars q ss → (length longer ≡ budget → ⊥) → Solving old arena log vars budget p rs → Solving old more longer vars budget q ss
solving-learn old arena more log longer vars budget p q rs ss w t n s =
    let g = learned-grown old arena more log longer vars budget p rs w s in
    record {
      grows = g.0.grows;
      size = g.0.size;
      left = omega (arith, g.1, s.left, n);
      below = g.0.below;
      none_empty = g.0.none_empty;
      state = t;
    }

pub refuted-grows : (old arena more : Clauses) (log longer : List Step) (vars budget : ℕ) (p : List Lit) (rs : Reasons) → IsRefuted arena log more longer → Solving old arena log vars budget p rs → Grows old longer more × ((id : ℕ) × (clause_at more id ≡ Some []))
refuted-grows old arena more log longer vars budget p rs w s = (
  subst (λ (x : Clauses). Grows old longer x) (sym w.1) (subst (λ (x : List Step). Grows old x (arena ++ Some [] ∷ [])) (sym w.2) (grows-push log old arena w.0 [] s.grows w.3 s.none_empty)),
  (length arena, ap (λ (x : Clauses). clause_at x (length arena)) w.1 ∙ get_or-new arena (Some []) None),
)

free-var : (p : List Lit) (l : Lit) → is_free p l ≡ true → is_free p (lit true l.var) ≡ true
free-var p l f =
    let w = and_parts _ _ f in
    elim (var-cases (lit true l.var) l refl) [
      | inl e ↦ ap (is_free p) e ∙ f
      | inr e ↦ ap (is_free p) e ∙ and_from _ _ w.1 (ap (λ (x : Lit). not (has p x)) (opposite-opposite l) ∙ w.0)
    ]

pub settled-none : (P : Type 0) (Q : ClauseId → Type 0) (o : Option ClauseId) → o ≡ None → MatchOption o P Q → P
settled-none P Q None e h = h
settled-none P Q (Some x) e h = cc

pub settled-some : (P : Type 0) (Q : ClauseId → Type 0) (o : Option ClauseId) (x : ClauseId) → o ≡ Some x → MatchOption o P Q → Q x
settled-some P Q None x e h = cc
settled-some P Q (Some y) x e h = subst Q (Some-is y x e) h

-- the same, of a trail
pub record Searching (old arena : Clauses) (log : List Step) (vars budget : ℕ) (t : Trail) : Type 0 where
  pub solving : Solving old arena log vars budget t.lits.items (reasons_of t)
  pub vars_is : vars_of t ≡ vars

pub searching-kept : (old arena : Clauses) (log : List Step) (vars budget : ℕ) (t : Trail) → Searching old arena log vars budget t → IsKept arena t
searching-kept old arena log vars budget t s = subst (λ (n : ℕ). State arena n t.lits.items (reasons_of t)) (sym s.vars_is) s.solving.state

pub searching-below : (old arena : Clauses) (log : List Step) (vars budget : ℕ) (t : Trail) → Searching old arena log vars budget t → AllClauses (is_below (vars_of t)) arena
searching-below old arena log vars budget t s = subst (λ (n : ℕ). AllClauses (is_below n) arena) (sym s.vars_is) s.solving.below

kept-at : (arena : Clauses) (vars : ℕ) (t : Trail) → vars_of t ≡ vars → IsKept arena t → State arena vars t.lits.items (reasons_of t)
kept-at arena vars t e k = subst (λ (n : ℕ). State arena n t.lits.items (reasons_of t)) e k

pub searching-start : (arena : Clauses) (vars budget : ℕ) (t : Trail) → AllClauses (is_below vars) arena → 0 < budget → AllClauses is_open arena → t.lits.items ≡ [] → vars_of t ≡ vars → Searching arena arena [] vars budget t
searching-start arena vars budget t b l o e v = record {
  solving = record {
    grows = refl;
    size = omega arith;
    left = l;
    below = b;
    none_empty = o;
    state =
        subst (λ (p : List Lit). State arena vars p (reasons_along t.reasons.items p)) (sym e)
        (record {
          lengths = refl;
          below = refl;
          consistent = λ i j d a h. absurd (omega arith);
          reasoned = λ k o l h. absurd (omega arith);
          complete = λ k o h. absurd (omega arith);
        });
  };
  vars_is = v;
}

-- a decision on a trail that propagation has settled
pub decides-is : (arena : Clauses) (log : List Step) (t u w : Trail) (l : Lit) → AllClauses (is_quiet u.lits.items) arena → is_free u.lits.items l ≡ true → l.var < vars_of u → w.lits.items ≡ u.lits.items ++ l ∷ [] → reasons_of w ≡ reasons_of u ++ None ∷ [] → vars_of w ≡ vars_of u → Spreads arena t u → Decides arena log t arena log w
decides-is arena log t u w l a f v e g n s = record {
  arena_same = refl;
  log_same = refl;
  kept =
      state-at arena (vars_of w) (vars_of u) w.lits.items (u.lits.items ++ l ∷ []) (reasons_of w) (reasons_of u ++ None ∷ []) n e g
      (state-decide arena (vars_of u) u.lits.items (reasons_of u) l a f v s.kept);
  vars = n ∙ s.vars;
  longer_trail = grown-push t.lits.items u.lits.items w.lits.items l s.longer e;
}

pub searching-decides : (old arena more : Clauses) (log longer : List Step) (vars budget : ℕ) (t w : Trail) → Decides arena log t more longer w → Searching old arena log vars budget t → Searching old more longer vars budget w
searching-decides old arena more log longer vars budget t w d h =
    let v : vars_of w ≡ vars = d.vars ∙ h.vars_is in
    subst (λ (a : Clauses). Searching old a longer vars budget w) (sym d.arena_same)
    (subst (λ (x : List Step). Searching old arena x vars budget w) (sym d.log_same)
    (record {
      solving = record {
        grows = h.solving.grows;
        size = h.solving.size;
        left = h.solving.left;
        below = h.solving.below;
        none_empty = h.solving.none_empty;
        state = kept-at arena vars w v d.kept;
      };
      vars_is = v;
    }))

smaller-trail : (n vars p q : ℕ) → p < q → q ≤ vars → n * (vars + 1) + (vars - q) < n * (vars + 1) + (vars - p)
smaller-trail n vars p q l h = omega arith

smaller-left : (n m vars p q : ℕ) → n ≡ suc m → q ≤ vars → m * (vars + 1) + (vars - p) < n * (vars + 1) + (vars - q)
smaller-left n m vars p q e h =
    let k : n * (vars + 1) ≡ m * (vars + 1) + (vars + 1) = ap (λ (x : ℕ). x * (vars + 1)) e ∙ suc-mul m (vars + 1) in
    omega arith

pub decides-smaller : (old arena more : Clauses) (log longer : List Step) (vars budget : ℕ) (t w : Trail) → Decides arena log t more longer w → Searching old arena log vars budget t → (budget - length longer) * (vars + 1) + (vars - length w.lits.items) < (budget - length log) * (vars + 1) + (vars - length t.lits.items)
decides-smaller old arena more log longer vars budget t w d h =
    let s = searching-decides old arena more log longer vars budget t w d h in
    subst (λ (x : List Step). (budget - length x) * (vars + 1) + (vars - length w.lits.items) < (budget - length log) * (vars + 1) + (vars - length t.lits.items)) (sym d.log_same)
    (smaller-trail (budget - length log) vars (length t.lits.items) (length w.lits.items) d.longer_trail
    (length-vars vars w.lits.items s.solving.state.consistent s.solving.state.below))

pub learned-smaller : (old arena more : Clauses) (log longer : List Step) (vars budget : ℕ) (t w : Trail) → IsLearned vars arena log more longer → Searching old arena log vars budget t → (budget - length longer) * (vars + 1) + (vars - length w.lits.items) < (budget - length log) * (vars + 1) + (vars - length t.lits.items)
learned-smaller old arena more log longer vars budget t w l h =
    let n : length longer ≡ length log + 1 = ap length l.3 ∙ length-append log (l.1 ∷ []) in
    smaller-left (budget - length log) (budget - length longer) vars (length w.lits.items) (length t.lits.items) (omega (arith, n, h.solving.left))
    (length-vars vars t.lits.items h.solving.state.consistent h.solving.state.below)

-- what stays in the arena
pub searching-keeps : (old arena : Clauses) (log : List Step) (vars budget : ℕ) (t : Trail) → Searching old arena log vars budget t → Keeps old arena
searching-keeps old arena log vars budget t s id c h =
    some-and (clause_at arena id) (λ d. is_same c d ≡ true) c (grows-old log old arena s.solving.grows id c h) (is_same-refl c)

-- a model
literal-holds : (q : List Lit) (a : ℕ → Bool) (s : Bool) (v : ℕ) → IsConsistent q → a v ≡ has q (lit false v) → has q (lit s v) ≡ true → bool_eq (a v) (not s) ≡ true
literal-holds q a false v h e t = ap (λ (b : Bool). bool_eq b true) (e ∙ t)
literal-holds q a true v h e t =
    let n : has q (lit false v) ≡ false = false_from_ne_true _ (λ x. apart q h (lit false v) x t) in
    ap (λ (b : Bool). bool_eq b false) (e ∙ n)

pub true-satisfies : (q : List Lit) (vars : ℕ) (bits : List Bool) (c : Clause) → IsConsistent q → is_below vars q ≡ true → ((v : ℕ) → v < vars → assignment bits v ≡ has q (lit false v)) → is_true q c ≡ true → satisfies (assignment bits) c ≡ true
true-satisfies q vars bits c h b f t =
    let w = passing (has q) c t in
    let l = w.0 in
    list_any-from_has (value_of (assignment bits)) c w.0 w.1
    (literal-holds q (assignment bits) w.0.negative w.0.var h (f w.0.var (ltb-true _ _ (list_all-at (λ x. ltb x.var vars) q b w.0 w.2))) w.2)

quiet-true : (vars : ℕ) (q : List Lit) (c : Clause) → is_below vars c ≡ true → ((v : ℕ) → v < vars → is_free q (lit true v) ≡ false) → is_quiet q c ≡ true → is_true q c ≡ true
quiet-true vars q c b f a =
    elim (or_cases (is_true q c) (has_two_free q c) a) [
      | inl z ↦ z
      | inr z ↦
          let w = passing (λ l. is_free q l && list_any (λ m. is_free q m && not (lit_eq m l)) c) c z in
          let small : w.0.var < vars = ltb-true _ _ (list_all-at (λ x. ltb x.var vars) c b w.0 w.1) in
          absurd (both_ways _ (f w.0.var small) (free-var q w.0 (and_parts _ _ w.2).0))
    ]

pub model-found : (arena : Clauses) (t u : Trail) (bits : List Bool) → AllClauses (is_below (vars_of t)) arena → AllClauses (is_quiet u.lits.items) arena → ((v : ℕ) → v < vars_of u → is_free u.lits.items (lit true v) ≡ false) → length bits ≡ vars_of u → ((v : ℕ) → v < vars_of u → assignment bits v ≡ has u.lits.items (lit false v)) → Spreads arena t u → IsModel arena (vars_of t) bits
model-found arena t u bits b a f n g s = record {
  size = n ∙ s.vars;
  satisfied = λ id c e.
      let small : is_below (vars_of u) c ≡ true = ap (λ (k : ℕ). is_below k c) s.vars ∙ b id c e in
      true-satisfies u.lits.items (vars_of u) bits c s.kept.consistent s.kept.below g (quiet-true (vars_of u) u.lits.items c small f (a id c e));
}

pub searching-model : (old arena : Clauses) (log : List Step) (vars budget : ℕ) (t : Trail) (bits : List Bool) → IsModel arena (vars_of t) bits → Searching old arena log vars budget t → IsModel old vars bits
searching-model old arena log vars budget t bits m h = record {
  size = m.size ∙ h.vars_is;
  satisfied = λ id c e. m.satisfied id c (grows-old log old arena h.solving.grows id c e);
}
