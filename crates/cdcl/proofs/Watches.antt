-- What watching two literals gives, and what keeps it.
use Rattle.std.proofs.Common.{◌≡◌, ℕ, ◌+◌, ◌<◌, ◌≤◌, true, false, inl, inr, List, [], ◌∷◌, ◌++◌, length, take, get_or, Option, Some, None, refl, sym, ap, ◌∙◌, arith, length-append}
use Rattle.std.specs.Option.{is_some}
use Rattle.std.proofs.lemmas.Bool.{cases_Bool, or_cases, or_left, or_right, false≢true, both_ways, false_from_ne_true, cases_lt}
use Rattle.std.proofs.lemmas.List.{length-take-le}
use Rattle.std.proofs.Math.Seq.{take-length}
use Rattle.clause_arena.specs.declared.Lit.{Lit}
use Rattle.clause_arena.specs.declared.ClauseId.{ClauseId}
use Rattle.clause_arena.specs.Clause.{Clause, Clauses, opposite, has, lit_eq}
use Rattle.clause_arena.proofs.Sets.{passing, list_any-from_has, lit_eq-true, lit_eq-refl}
use Rattle.res_log.specs.Partial.{is_true, is_quiet, is_free}
use Rattle.cdcl.specs.declared.watch.Pair.{Pair}
use Rattle.cdcl.specs.Trail.{Reasons, AllClauses, AreForcedFrom}
use Rattle.cdcl.specs.Watched.{IsGuarded, IsHeld, IsWatched, no_pair}
use Rattle.cdcl.proofs.Parts.{Some-None}
use Rattle.cdcl.proofs.Looks.{quiet-two, quiet-true, free-from}
use Rattle.cdcl.proofs.Gains.{has-take, take-less, free-not-false}
use Rattle.cdcl.proofs.Arrays.{has-push}
use Rattle.cdcl.proofs.Forced.{opposite-opposite, opposite-other}
use Rattle.cdcl.proofs.Back.{take-back, get_or-any, zero_lit}
use Rattle.cdcl.proofs.Spread.{get_or-old, get_or-new, take-old}

-- a clause that has a true literal has one in a longer trail
pub true-push : (p : List Lit) (l : Lit) (c : Clause) → is_true p c ≡ true → is_true (p ++ l ∷ []) c ≡ true
true-push p l c h = let w = passing (has p) c h in list_any-from_has (has (p ++ l ∷ [])) c w.0 w.1 (has-push p l w.0 ∙ or_left _ _ w.2)

-- all literals were looked at: a guarded pair makes its clause quiet
paired-quiet : (p : List Lit) (rs : Reasons) (c : Clause) (x y : Lit) → has c x ≡ true → has c y ≡ true → lit_eq y x ≡ false → IsGuarded p rs (length p) c x → IsGuarded p rs (length p) c y → is_quiet p c ≡ true
paired-quiet p rs c x y hx hy n gx gy =
    let e : take (length p) p ≡ p = take-length p in
    elim (cases_Bool (has p (opposite x))) [
      | inl a ↦ or_left _ _ (gx.now (ap (λ (q : List Lit). has q (opposite x)) e ∙ a))
      | inr a ↦
          elim (cases_Bool (has p (opposite y))) [
            | inl b ↦ or_left _ _ (gy.now (ap (λ (q : List Lit). has q (opposite y)) e ∙ b))
            | inr b ↦
                elim (cases_Bool (has p x)) [
                  | inl u ↦ quiet-true p c x hx u
                  | inr u ↦
                      elim (cases_Bool (has p y)) [
                        | inl v ↦ quiet-true p c y hy v
                        | inr v ↦ quiet-two p c x y hx hy (free-from p x u a) (free-from p y v b) n
                      ]
                ]
          ]
    ]

-- COMPLETENESS: where all literals of the trail were looked at, each clause is quiet, so a decision or a model misses no propagation
pub watched-settled : (arena : Clauses) (p : List Lit) (rs : Reasons) (lists : List (List ClauseId)) (pairs : List Pair) → IsWatched arena p rs (length p) lists pairs → AllClauses (is_quiet p) arena
watched-settled arena p rs lists pairs w id c e =
    elim (w (record { 0 = id }) c e).2 [
      | inl h ↦ or_left _ _ h.now
      | inr t ↦ paired-quiet p rs c (get_or pairs id no_pair).first (get_or pairs id no_pair).second t.has_first t.has_second t.differ t.first t.second
    ]

-- a forced literal
pub guarded-push : (p : List Lit) (rs : Reasons) (h : ℕ) (c : Clause) (w l : Lit) (id : ClauseId) → length rs ≡ length p → h ≤ length p → IsGuarded p rs h c w → IsGuarded (p ++ l ∷ []) (rs ++ Some id ∷ []) h c w
guarded-push p rs h c w l id n le g =
    let m : length (p ++ l ∷ []) ≡ length p + 1 = length-append p (l ∷ []) in
    let t : take h (p ++ l ∷ []) ≡ take h p = take-old p l h le in record {
      now = λ a. true-push p l c (g.now (ap (λ (q : List Lit). has q (opposite w)) (sym t) ∙ a));
      ends = λ k o lt e a.
          elim (cases_lt k (length p)) [
            | inl b ↦
                let b2 : k < length rs = omega arith in
                ap (λ (q : List Lit). is_true q c) (take-old p l k (omega arith))
                ∙ g.ends k o b (sym (get_or-old rs (Some id) k o b2) ∙ e) (ap (λ (q : List Lit). has (take k q) (opposite w)) (sym t) ∙ a)
            | inr b ↦
                let v : k ≡ length rs = omega arith in
                absurd (Some-None id (sym (get_or-new rs (Some id) o) ∙ ap (λ (z : ℕ). get_or (rs ++ Some id ∷ []) z o) (sym v) ∙ e))
          ];
    }

-- a decision
pub guarded-decide : (p : List Lit) (rs : Reasons) (h : ℕ) (c : Clause) (w l : Lit) → length rs ≡ length p → h ≤ length p → IsGuarded p rs h c w → IsGuarded (p ++ l ∷ []) (rs ++ None ∷ []) h c w
guarded-decide p rs h c w l n le g =
    let m : length (p ++ l ∷ []) ≡ length p + 1 = length-append p (l ∷ []) in
    let t : take h (p ++ l ∷ []) ≡ take h p = take-old p l h le in record {
      now = λ a. true-push p l c (g.now (ap (λ (q : List Lit). has q (opposite w)) (sym t) ∙ a));
      ends = λ k o lt e a.
          elim (cases_lt k (length p)) [
            | inl b ↦
                let b2 : k < length rs = omega arith in
                ap (λ (q : List Lit). is_true q c) (take-old p l k (omega arith))
                ∙ g.ends k o b (sym (get_or-old rs None k o b2) ∙ e) (ap (λ (q : List Lit). has (take k q) (opposite w)) (sym t) ∙ a)
            | inr b ↦
                let v : k ≡ length p = omega arith in
                let u : take k (p ++ l ∷ []) ≡ p = take-old p l k (omega arith) ∙ ap (λ (z : ℕ). take z p) v ∙ take-length p in
                ap (λ (q : List Lit). is_true q c) u
                ∙ g.now (has-take (take h p) k (opposite w) (ap (λ (q : List Lit). has (take k q) (opposite w)) (sym t) ∙ a))
          ];
    }

-- going back to the end of a level: what was looked at is all that is left
pub guarded-back : (p : List Lit) (rs : Reasons) (h e : ℕ) (c : Clause) (w : Lit) → e < length p → e ≤ h → ((o : Option ClauseId) → get_or rs e o ≡ None) → ((k : ℕ) (o : Option ClauseId) → k < e → get_or (take e rs) k o ≡ get_or rs k o) → IsGuarded p rs h c w → IsGuarded (take e p) (take e rs) e c w
guarded-back p rs h e c w lt le d s g =
    let n : length (take e p) ≡ e = length-take-le e p (omega arith) in
    let t : take e (take e p) ≡ take e (take h p) = take-less p e e (omega arith) ∙ sym (take-less p e h le) in record {
      now = λ a. g.ends e None lt (d None) (ap (λ (q : List Lit). has q (opposite w)) (sym t) ∙ a);
      ends = λ k o b q a.
          let b2 : k < e = omega arith in
          ap (λ (z : List Lit). is_true z c) (take-less p k e (omega arith))
          ∙ g.ends k o (omega arith) (sym (s k o b2) ∙ q)
          (ap (λ (z : List Lit). has z (opposite w)) (sym (take-less (take h p) k e (omega arith)) ∙ ap (take k) (sym t)) ∙ a);
    }

-- a literal that is not false may be watched
pub guarded-open : (p : List Lit) (rs : Reasons) (h : ℕ) (c : Clause) (z : Lit) → has p (opposite z) ≡ false → IsGuarded p rs h c z
guarded-open p rs h c z f = record {
  now = λ a. absurd (both_ways _ f (has-take p h (opposite z) a));
  ends = λ k o lt e a. absurd (both_ways _ f (has-take p h (opposite z) (has-take (take h p) k (opposite z) a)));
}

pub held-push : (p : List Lit) (rs : Reasons) (c : Clause) (l : Lit) (id : ClauseId) → length rs ≡ length p → IsHeld p rs c → IsHeld (p ++ l ∷ []) (rs ++ Some id ∷ []) c
held-push p rs c l id n g =
    let m : length (p ++ l ∷ []) ≡ length p + 1 = length-append p (l ∷ []) in record {
      now = true-push p l c g.now;
      ends = λ k o lt e.
          elim (cases_lt k (length p)) [
            | inl b ↦
                let b2 : k < length rs = omega arith in
                ap (λ (q : List Lit). is_true q c) (take-old p l k (omega arith)) ∙ g.ends k o b (sym (get_or-old rs (Some id) k o b2) ∙ e)
            | inr b ↦
                let v : k ≡ length rs = omega arith in
                absurd (Some-None id (sym (get_or-new rs (Some id) o) ∙ ap (λ (z : ℕ). get_or (rs ++ Some id ∷ []) z o) (sym v) ∙ e))
          ];
    }

take-one : (p : List Lit) (h : ℕ) (d : Lit) → h < length p → take h p ++ get_or p h d ∷ [] ≡ take (h + 1) p
take-one p h d lt = ap (λ (l : Lit). take h p ++ l ∷ []) (get_or-any p h d zero_lit lt) ∙ take-back p (h + 1) h refl (omega arith)

-- one literal more was looked at
pub guarded-next : (p : List Lit) (rs : Reasons) (h : ℕ) (c : Clause) (x w : Lit) → length rs ≡ length p → h < length p → opposite (get_or p h w) ≡ w → AreForcedFrom rs (h + 1) → (x ≡ w → is_true p c ≡ true) → IsGuarded p rs h c x → IsGuarded p rs (h + 1) c x
guarded-next p rs h c x w n lt q f v g = record {
  now = λ a.
      let b : has (take h p ++ get_or p h w ∷ []) (opposite x) ≡ true = ap (λ (z : List Lit). has z (opposite x)) (take-one p h w lt) ∙ a in
      elim (or_cases (has (take h p) (opposite x)) (lit_eq (opposite x) (get_or p h w)) (sym (has-push (take h p) (get_or p h w) (opposite x)) ∙ b)) [
        | inl u ↦ g.now u
        | inr u ↦ v (sym (opposite-opposite x) ∙ ap opposite (lit_eq-true _ _ u) ∙ q)
      ];
  ends = λ k o l e a.
      elim (cases_lt k (h + 1)) [
        | inl u ↦
            g.ends k o l e
            (ap (λ (z : List Lit). has z (opposite x)) (take-less p k h (omega arith) ∙ sym (take-less p k (h + 1) (omega arith))) ∙ a)
        | inr u ↦ absurd (false≢true (sym (ap is_some e) ∙ f k o u (omega (arith, n, l))))
      ];
}

-- THE LIFE OF THE WATCHES: nothing was looked at yet
pub guarded-zero : (p : List Lit) (rs : Reasons) (c : Clause) (w : Lit) → IsGuarded p rs 0 c w
guarded-zero p rs c w = record {
  now = λ a. absurd (false≢true (none p w a));
  ends = λ k o lt e a. absurd (false≢true (none p w (has-take (take 0 p) k (opposite w) a)));
} where
  none : (p : List Lit) (w : Lit) → has (take 0 p) (opposite w) ≡ true → false ≡ true
  none [] w a = a
  none (x ∷ xs) w a = a

-- the literal that a learned clause forces is not false
pub learned-first : (p : List Lit) (rs : Reasons) (c : Clause) (l : Lit) (id : ClauseId) → is_free p l ≡ true → IsGuarded (p ++ l ∷ []) (rs ++ Some id ∷ []) (length p) c l
learned-first p rs c l id f =
    guarded-open (p ++ l ∷ []) (rs ++ Some id ∷ []) (length p) c l
    (false_from_ne_true _ (λ a.
    elim (or_cases (has p (opposite l)) (lit_eq (opposite l) l) (sym (has-push p l (opposite l)) ∙ a)) [
      | inl u ↦ free-not-false p l f u
      | inr u ↦ opposite-other l (lit_eq-true _ _ u)
    ]))

-- the newest of the others, which was not false at the end of an earlier level
pub learned-second : (p : List Lit) (rs : Reasons) (c : Clause) (l m : Lit) (id : ClauseId) → length rs ≡ length p → has c l ≡ true → ((k : ℕ) (o : Option ClauseId) → k < length p → get_or rs k o ≡ None → has (take k p) (opposite m) ≡ false) → IsGuarded (p ++ l ∷ []) (rs ++ Some id ∷ []) (length p) c m
learned-second p rs c l m id n h f =
    let d : length (p ++ l ∷ []) ≡ length p + 1 = length-append p (l ∷ []) in
    let t : take (length p) (p ++ l ∷ []) ≡ p = take-old p l (length p) (omega arith) ∙ take-length p in record {
      now = λ a. list_any-from_has (has (p ++ l ∷ [])) c l h (has-push p l l ∙ or_right _ _ (lit_eq-refl l));
      ends = λ k o lt e a.
          elim (cases_lt k (length p)) [
            | inl b ↦
                let b2 : k < length rs = omega arith in
                absurd (both_ways _ (f k o b (sym (get_or-old rs (Some id) k o b2) ∙ e)) (ap (λ (q : List Lit). has (take k q) (opposite m)) (sym t) ∙ a))
            | inr b ↦
                let v : k ≡ length rs = omega arith in
                absurd (Some-None id (sym (get_or-new rs (Some id) o) ∙ ap (λ (z : ℕ). get_or (rs ++ Some id ∷ []) z o) (sym v) ∙ e))
          ];
    }

-- a learned clause of one literal, at level 0
pub learned-held : (p : List Lit) (rs : Reasons) (c : Clause) (l : Lit) (id : ClauseId) → length rs ≡ length p → has c l ≡ true → AreForcedFrom rs 0 → IsHeld (p ++ l ∷ []) (rs ++ Some id ∷ []) c
learned-held p rs c l id n h f =
    let d : length (p ++ l ∷ []) ≡ length p + 1 = length-append p (l ∷ []) in record {
      now = list_any-from_has (has (p ++ l ∷ [])) c l h (has-push p l l ∙ or_right _ _ (lit_eq-refl l));
      ends = λ k o lt e.
          elim (cases_lt k (length rs)) [
            | inl b ↦ absurd (false≢true (sym (ap is_some (sym (get_or-old rs (Some id) k o b) ∙ e)) ∙ f k o (omega arith) b))
            | inr b ↦
                let v : k ≡ length rs = omega (arith, b, lt, d, n) in
                absurd (Some-None id (sym (get_or-new rs (Some id) o) ∙ ap (λ (z : ℕ). get_or (rs ++ Some id ∷ []) z o) (sym v) ∙ e))
          ];
    }

pub held-decide : (p : List Lit) (rs : Reasons) (c : Clause) (l : Lit) → length rs ≡ length p → IsHeld p rs c → IsHeld (p ++ l ∷ []) (rs ++ None ∷ []) c
held-decide p rs c l n g =
    let m : length (p ++ l ∷ []) ≡ length p + 1 = length-append p (l ∷ []) in record {
      now = true-push p l c g.now;
      ends = λ k o lt e.
          elim (cases_lt k (length p)) [
            | inl b ↦
                let b2 : k < length rs = omega arith in
                ap (λ (q : List Lit). is_true q c) (take-old p l k (omega arith)) ∙ g.ends k o b (sym (get_or-old rs None k o b2) ∙ e)
            | inr b ↦
                let v : k ≡ length p = omega arith in
                ap (λ (q : List Lit). is_true q c) (take-old p l k (omega arith) ∙ ap (λ (z : ℕ). take z p) v ∙ take-length p) ∙ g.now
          ];
    }

pub held-back : (p : List Lit) (rs : Reasons) (e : ℕ) (c : Clause) → e < length p → ((o : Option ClauseId) → get_or rs e o ≡ None) → ((k : ℕ) (o : Option ClauseId) → k < e → get_or (take e rs) k o ≡ get_or rs k o) → IsHeld p rs c → IsHeld (take e p) (take e rs) c
held-back p rs e c lt d s g =
    let n : length (take e p) ≡ e = length-take-le e p (omega arith) in record {
      now = g.ends e None lt (d None);
      ends = λ k o b q.
          let b2 : k < e = omega arith in
          ap (λ (z : List Lit). is_true z c) (take-less p k e (omega arith)) ∙ g.ends k o (omega arith) (sym (s k o b2) ∙ q);
    }
