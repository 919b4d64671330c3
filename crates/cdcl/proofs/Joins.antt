-- Clauses that are put together with no literal twice.
use Rattle.std.proofs.Common.{◌≡◌, ℕ, ◌+◌, ◌<◌, ◌≤◌, eqb, Bool, true, false, not, ◌&&◌, ◌||◌, [], ◌∷◌, ◌++◌, length, take, get_or, refl, sym, ap, ◌∙◌, arith}
use Rattle.std.proofs.lemmas.Bool.{false≢true, not_from_false, eq-eqb, ne_eqb, not_from_true}
use Rattle.std.proofs.Math.Bool.{or-false}
use Rattle.std.proofs.Math.Seq.{take-length}
use Rattle.std.proofs.lemmas.List.Folds.{list_any_more}
use Rattle.clause_arena.specs.declared.Lit.{Lit}
use Rattle.clause_arena.specs.Clause.{Clause, has, lit_eq, without}
use Rattle.clause_arena.proofs.Sets.{lit_eq-true, has-append, has-without}
use Rattle.cdcl.proofs.Back.{zero_lit}
use Rattle.cdcl.proofs.Arrays.{has-push}

pub whole : (c : Clause) (i : ℕ) → i ≤ length c → length c ≤ i → take i c ≡ c
whole c i a b = ap (λ (k : ℕ). take k c) (let e : i ≡ length c = omega arith in e) ∙ take-length c

pub has-more : (c : Clause) (i : ℕ) (m : Lit) → i < length c → has (take (i + 1) c) m ≡ (has (take i c) m || lit_eq m (get_or c i zero_lit))
has-more c i m l = list_any_more (lit_eq m) c i zero_lit l

-- the literals of the first, and those of the second of other variables
abbrev pub joined : Clause → Clause → ℕ → Lit → Bool
joined first c v m = has first m || (has c m && not (eqb m.var v))

pub joined-all : (first c : Clause) (v : ℕ) (m : Lit) → joined first c v m ≡ has (first ++ without v c) m
joined-all first c v m = sym (has-append first (without v c) m ∙ ap (λ (b : Bool). has first m || b) (has-without v c m))

skip : (a b e n : Bool) → (e ≡ true → n ≡ false) → (a || (b && n)) ≡ (a || ((b || e) && n))
skip true b e n f = refl
skip false true e n f = refl
skip false false false n f = refl
skip false false true n f = rw (f refl) refl

-- the first of the two cannot be
both_ways_n : (n : Bool) → false ≡ true → n ≡ true
both_ways_n n h = absurd (false≢true h)

there : (a b e n : Bool) → (e ≡ true → (a || (b && n)) ≡ true) → (a || (b && n)) ≡ (a || ((b || e) && n))
there true b e n f = refl
there false true e n f = refl
there false false false n f = refl
there false false true n f = f refl ∙ sym (both_ways_n n (f refl))

added : (a b e n : Bool) → (e ≡ true → n ≡ true) → ((a || (b && n)) || e) ≡ (a || ((b || e) && n))
added true b e n f = refl
added false true true n f = rw (f refl) refl
added false true false n f = or-false n
added false false false n f = refl
added false false true n f = sym (f refl)

pub joined-skip : (first c : Clause) (v i : ℕ) (m : Lit) → i < length c → (get_or c i zero_lit).var ≡ v → joined first (take i c) v m ≡ joined first (take (i + 1) c) v m
joined-skip first c v i m l q =
    let x = get_or c i zero_lit in
    skip (has first m) (has (take i c) m) (lit_eq m x) (not (eqb m.var v)) (λ e. not_from_true _ (eq-eqb _ _ (ap (λ (y : Lit). y.var) (lit_eq-true m x e) ∙ q)))
    ∙ ap (λ (b : Bool). has first m || (b && not (eqb m.var v))) (sym (has-more c i m l))

pub joined-there : (first c out : Clause) (v i : ℕ) (m : Lit) → i < length c → has out (get_or c i zero_lit) ≡ true → ((y : Lit) → has out y ≡ joined first (take i c) v y) → joined first (take i c) v m ≡ joined first (take (i + 1) c) v m
joined-there first c out v i m l h f =
    let x = get_or c i zero_lit in
    there (has first m) (has (take i c) m) (lit_eq m x) (not (eqb m.var v))
    (λ e. sym (f m) ∙ ap (has out) (lit_eq-true m x e) ∙ h)
    ∙ ap (λ (b : Bool). has first m || (b && not (eqb m.var v))) (sym (has-more c i m l))

pub joined-new : (first c out : Clause) (v i : ℕ) (m : Lit) → i < length c → ((get_or c i zero_lit).var ≡ v → ⊥) → ((y : Lit) → has out y ≡ joined first (take i c) v y) → has (out ++ get_or c i zero_lit ∷ []) m ≡ joined first (take (i + 1) c) v m
joined-new first c out v i m l n f =
    let x = get_or c i zero_lit in
    has-push out x m ∙ ap (λ (b : Bool). b || lit_eq m x) (f m)
    ∙ added (has first m) (has (take i c) m) (lit_eq m x) (not (eqb m.var v)) (λ e. not_from_false _ (ne_eqb _ _ (λ q. n (sym (ap (λ (y : Lit). y.var) (lit_eq-true m x e)) ∙ q))))
    ∙ ap (λ (b : Bool). has first m || (b && not (eqb m.var v))) (sym (has-more c i m l))
