-- What a chooser knows of the free variables as the trail changes.
use Rattle.std.proofs.Common.{◌≡◌, ℕ, ◌-◌, ◌<◌, ltb, Bool, true, false, inl, inr, List, [], ◌∷◌, ◌++◌, length, take, drop, get_or, cond, Some, None, refl, sym, ap, ◌∙◌, arith}
use Rattle.std.proofs.lemmas.Bool.{cases_Bool, both_ways, and_parts, or_cases, or_left, false_from_ne_true}
use Rattle.std.proofs.lemmas.List.{take-append-drop, take_rest, get_or_past}
use Rattle.std.proofs.lemmas.List.Folds.{list_all-append}
use Rattle.clause_arena.specs.declared.Lit.{Lit}
use Rattle.clause_arena.specs.Clause.{Clause, Clauses, clause_at, lit, has, is_below}
use Rattle.clause_arena.proofs.Sets.{has-append}
use Rattle.cdcl.specs.declared.trail.Trail.{Trail}
use Rattle.cdcl.specs.Arrays.{AreValues}
use Rattle.cdcl.specs.Held.{vars_of, Spreads}
use Rattle.cdcl.specs.Pick.{IsFreeIn, AreKnown}
use Rattle.cdcl.proofs.Arrays.{has-push}
use Rattle.cdcl.proofs.Parts.{Some-None}

-- what stands for a variable, by whether it is true and whether it is false
abbrev code : Bool → Bool → ℕ
code a b = cond a 1 (cond b 2 0)

no-value : (a b : Bool) → code a b ≡ 0 → (a ≡ false) × (b ≡ false)
no-value true b e = absurd (omega (arith, e))
no-value false true e = absurd (omega (arith, e))
no-value false false e = (refl, refl)

free-if : (p : List Lit) (values : List ℕ) (v : ℕ) → AreValues p values → v < length values → has p (lit false v) ≡ false → has p (lit true v) ≡ false → get_or values v 0 ≡ 0
free-if p values v f l a b = f v l ∙ ap (λ (x : Bool). code x (has p (lit true v))) a ∙ ap (λ (x : Bool). code false x) b

-- what is free after more literals became true was free before
free-before : (p q : List Lit) (old new : List ℕ) → AreValues p old → AreValues q new → length new ≡ length old → ((l : Lit) → has p l ≡ true → has q l ≡ true) → (v : ℕ) → IsFreeIn new v → IsFreeIn old v
free-before p q old new f g n h v e =
    let w = no-value (has q (lit false v)) (has q (lit true v)) (sym (g v e.0) ∙ e.1) in
    let l : v < length old = omega (arith, e.0, n) in (
      l,
      free-if p old v f l (false_from_ne_true _ (λ t. both_ways _ w.0 (h (lit false v) t))) (false_from_ne_true _ (λ t. both_ways _ w.1 (h (lit true v) t))),
    )

pub known-spread : (knows : ℕ → Bool) (arena : Clauses) (t u : Trail) → Spreads arena t u → AreKnown knows t.values.items → AreKnown knows u.values.items
known-spread knows arena t u s k v e = k v (free-before t.lits.items u.lits.items t.values.items u.values.items t.valued u.valued s.vars s.grown v e)

pub known-push : (knows : ℕ → Bool) (t u : Trail) (l : Lit) → u.lits.items ≡ t.lits.items ++ l ∷ [] → vars_of u ≡ vars_of t → AreKnown knows t.values.items → AreKnown knows u.values.items
known-push knows t u l e n k v f =
    k v (free-before t.lits.items u.lits.items t.values.items u.values.items t.valued u.valued n
    (λ m h. ap (λ (p : List Lit). has p m) e ∙ has-push t.lits.items l m ∙ or_left _ _ h) v f)

-- all variables are known
pub known-all : (knows : ℕ → Bool) (vars : ℕ) (t : Trail) → vars_of t ≡ vars → ((v : ℕ) → v < vars → knows v ≡ true) → AreKnown knows t.values.items
known-all knows vars t n k v e = k v (omega (arith, e.0, n))

in-rest : (p q rest : List Lit) (end : ℕ) (m : Lit) → q ≡ take end p → rest ≡ drop end p → has p m ≡ true → has q m ≡ false → has rest m ≡ true
in-rest p q rest end m eq er h out =
    elim (or_cases (has (take end p) m) (has (drop end p) m) (sym (has-append (take end p) (drop end p) m) ∙ ap (λ (x : List Lit). has x m) (take-append-drop end p) ∙ h)) [
      | inl a ↦ absurd (both_ways _ out (ap (λ (x : List Lit). has x m) eq ∙ a))
      | inr b ↦ ap (λ (x : List Lit). has x m) er ∙ b
    ]

-- what became free as literals were taken back was heard of
pub known-back : (knows more : ℕ → Bool) (t u : Trail) (rest : List Lit) (end : ℕ) → vars_of u ≡ vars_of t → u.lits.items ≡ take end t.lits.items → rest ≡ drop end t.lits.items
    → ((v : ℕ) → knows v ≡ true → more v ≡ true) → ((l : Lit) → has rest l ≡ true → more l.var ≡ true) → AreKnown knows t.values.items → AreKnown more u.values.items
known-back knows more t u rest end n eq er up freed k v e =
    let p = t.lits.items in
    let q = u.lits.items in
    let w = no-value (has q (lit false v)) (has q (lit true v)) (sym (u.valued v e.0) ∙ e.1) in
    let l : v < length t.values.items = omega (arith, e.0, n) in
    elim (cases_Bool (has p (lit false v))) [
      | inl a ↦ freed (lit false v) (in-rest p q rest end (lit false v) eq er a w.0)
      | inr a ↦
          elim (cases_Bool (has p (lit true v))) [
            | inl b ↦ freed (lit true v) (in-rest p q rest end (lit true v) eq er b w.1)
            | inr b ↦ up v (k v (l, free-if p t.values.items v t.valued l a b))
          ]
    ]

-- the literals from a place on, as a slice
pub rest-is : (p d : List Lit) (end : ℕ) → d ≡ p → take (length d - end) (drop end d) ≡ drop end p
rest-is p d end e = take_rest d end ∙ ap (drop end) e

pub below-rest : (n : ℕ) (p rest : List Lit) (end : ℕ) → rest ≡ drop end p → is_below n p ≡ true → is_below n rest ≡ true
below-rest n p rest end e h =
    ap (is_below n) e
    ∙ (and_parts _ _ (sym (list_all-append (λ x. ltb x.var n) (take end p) (drop end p)) ∙ ap (is_below n) (take-append-drop end p) ∙ h)).1

-- the arena has no clause at its end
pub none-at-end : (arena : Clauses) (c : Clause) → clause_at arena (length arena) ≡ Some c → ⊥
none-at-end arena c e = Some-None c (sym e ∙ get_or_past arena (length arena) None (omega arith))
