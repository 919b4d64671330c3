-- A chain, link by link.
use Rattle.std.proofs.Common.{inl, inr, ◌≡◌, ℕ, ◌+◌, ◌<◌, ◌≤◌, Bool, true, false, not, ◌&&◌, List, [], ◌∷◌, ◌++◌, length, drop, get_or, Option, Some, None, eqb, refl, sym, ◌∙◌, ap, subst, arith}
use Rattle.std.specs.Option.{option_and_then, IsSomeAnd}
use Rattle.std.proofs.lemmas.Bool.{cases_Bool, cond-false, and_left, and_right, or_left, or_from, and_from, not_from_true, not_from_false, eqb-true}
use Rattle.std.proofs.lemmas.List.{drop_more, drop_all}
use Rattle.clause_arena.specs.declared.Lit.{Lit}
use Rattle.clause_arena.specs.Clause.{Clause, lit, opposite, has, is_tautology, has_only, clash, without, resolve}
use Rattle.clause_arena.proofs.Sets.{passing, has-append, has-without, list_any-from_has}
use Rattle.res_log.specs.declared.ChainStep.{ChainStep}
use Rattle.res_log.specs.Log.{Book, chain}
use Rattle.res_log.specs.Marks.{Signs, Marks}

both-only : (c : Clause) (l : Lit) (s : Bool) → has c l ≡ true → has c (opposite l) ≡ true → has_only s c l.var ≡ false
both-only c l s h g = signs l.negative s h g
  where
    signs : (n s : Bool) → has c (lit n l.var) ≡ true → has c (lit (not n) l.var) ≡ true → has_only s c l.var ≡ false
    signs true true h g = and_right (has c (lit true l.var)) _ (not_from_true _ g)
    signs true false h g = and_right (has c (lit false l.var)) _ (not_from_true _ h)
    signs false true h g = and_right (has c (lit true l.var)) _ (not_from_true _ h)
    signs false false h g = and_right (has c (lit false l.var)) _ (not_from_true _ g)

-- a clause with a literal and its negation has no resolvent
pub tautology-none : (c d : Clause) (v : ℕ) → is_tautology c ≡ true → resolve c d v ≡ None
tautology-none c d v t =
    let w = passing (λ l. has c (opposite l)) c t in
    cond-false (clash c d v && not (is_tautology (without v c ++ without v d))) (Some (without v c ++ without v d)) None
    (elim (cases_Bool (eqb w.0.var v)) [
      | inl e ↦
          let q : w.0.var ≡ v = eqb-true _ _ e in
          let p : (s : Bool) → has_only s c v ≡ false = λ (s : Bool). subst (λ (n : ℕ). has_only s c n ≡ false) q (both-only c w.0 s w.1 w.2) in
          and_left (clash c d v) _ (or_from _ _ (and_left _ _ (p false)) (and_left _ _ (p true)))
      | inr e ↦
          let f : not (eqb w.0.var v) ≡ true = not_from_false _ e in
          let in' : (l : Lit) → has c l ≡ true → l.var ≡ w.0.var → has (without v c ++ without v d) l ≡ true =
          λ (l : Lit) (h : has c l ≡ true) (q : l.var ≡ w.0.var).
          has-append (without v c) (without v d) l ∙ or_left _ _ (has-without v c l ∙ and_from _ _ h (ap (λ (n : ℕ). not (eqb n v)) q ∙ f)) in
          and_right (clash c d v) _ (not_from_true _
          (list_any-from_has (λ l. has (without v c ++ without v d) (opposite l)) (without v c ++ without v d) w.0 (in' w.0 w.1 refl) (in' (opposite w.0) w.2 refl)))
    ])

then-none : (o : Option Clause) (f : Clause → Option Clause) → ((d : Clause) → f d ≡ None) → option_and_then f o ≡ None
then-none None f h = refl
then-none (Some d) f h = h d

pub tautology-chain : (b : Book) (rest : List ChainStep) (c : Clause) → 0 < length rest → is_tautology c ≡ true → chain b rest c ≡ None
tautology-chain b [] c l t = absurd (omega arith)
tautology-chain b (x ∷ xs) c l t =
    then-none (b x.clause.0) (λ d. option_and_then (chain b xs) (resolve c d x.pivot)) (λ d. ap (option_and_then (chain b xs)) (tautology-none c d x.pivot t))

next-link : (b : Book) (rest : List ChainStep) (first c : Clause) (i : ℕ) (x : ChainStep) → i < length rest → x ≡ get_or rest i x → chain b (drop i rest) c ≡ chain b rest first → chain b (x ∷ drop (i + 1) rest) c ≡ chain b rest first
next-link b rest first c i x l e h =
    ap (λ (y : ChainStep). chain b (y ∷ drop (i + 1) rest) c) e ∙ ap (λ (ys : List ChainStep). chain b ys c) (sym (drop_more rest i x l)) ∙ h

pub link-gone : (b : Book) (rest : List ChainStep) (first c : Clause) (i : ℕ) (x : ChainStep) → i < length rest → x ≡ get_or rest i x → chain b (drop i rest) c ≡ chain b rest first → b x.clause.0 ≡ None → chain b rest first ≡ None
link-gone b rest first c i x l e h g =
    sym (next-link b rest first c i x l e h) ∙ ap (option_and_then (λ d. option_and_then (chain b (drop (i + 1) rest)) (resolve c d x.pivot))) g

at-link : (b : Book) (rest : List ChainStep) (first c : Clause) (i : ℕ) (x : ChainStep) (d : Clause) → i < length rest → x ≡ get_or rest i x → chain b (drop i rest) c ≡ chain b rest first → b x.clause.0 ≡ Some d → option_and_then (chain b (drop (i + 1) rest)) (resolve c d x.pivot) ≡ chain b rest first
at-link b rest first c i x d l e h g =
    ap (option_and_then (λ d. option_and_then (chain b (drop (i + 1) rest)) (resolve c d x.pivot))) (sym g) ∙ next-link b rest first c i x l e h

pub link-stuck : (b : Book) (rest : List ChainStep) (first c : Clause) (i : ℕ) (x : ChainStep) (d : Clause) → i < length rest → x ≡ get_or rest i x → chain b (drop i rest) c ≡ chain b rest first → b x.clause.0 ≡ Some d → resolve c d x.pivot ≡ None → chain b rest first ≡ None
link-stuck b rest first c i x d l e h g r =
    sym (at-link b rest first c i x d l e h g) ∙ ap (option_and_then (chain b (drop (i + 1) rest))) r

-- what stays the same from link to link
abbrev pub IsUnderway : Book → List ChainStep → Clause → ℕ → Signs → Type 0
IsUnderway b rest first i m = (c : Clause) × (chain b (drop i rest) c ≡ chain b rest first) × Marks m c

some-inside : (o : Option Clause) (P : Clause → Type 0) → IsSomeAnd o P → (q : Clause) × (o ≡ Some q) × P q
some-inside None P h = absurd h
some-inside (Some q) P h = (q, refl, h)

pub link-more : (b : Book) (rest : List ChainStep) (first c : Clause) (i : ℕ) (x : ChainStep) (d : Clause) (n : Signs) → i < length rest → x ≡ get_or rest i x → chain b (drop i rest) c ≡ chain b rest first → b x.clause.0 ≡ Some d → IsSomeAnd (resolve c d x.pivot) (Marks n) → IsUnderway b rest first (i + 1) n
link-more b rest first c i x d n l e h g r =
    let w = some-inside (resolve c d x.pivot) (Marks n) r in
    (w.0, ap (option_and_then (chain b (drop (i + 1) rest))) (sym w.1) ∙ at-link b rest first c i x d l e h g, w.2)

pub all-links : (b : Book) (rest : List ChainStep) (first : Clause) (i : ℕ) (m : Signs) → length rest ≤ i → IsUnderway b rest first i m → IsSomeAnd (chain b rest first) (Marks m)
all-links b rest first i m l h =
    let e : Some h.0 ≡ chain b rest first = ap (λ (ys : List ChainStep). chain b ys h.0) (sym (drop_all i rest l)) ∙ h.1 in
    subst (λ (o : Option Clause). IsSomeAnd o (Marks m)) e h.2
