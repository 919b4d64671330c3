-- Whether a sound log whose last id is live ends with the empty clause.
use Rattle.std.proofs.Common.{◌≡◌, ℕ, ◌-◌, ◌<◌, eqb, Bool, true, List, [], ◌∷◌, length, get_or, Some, refl, sym, ap, ◌∙◌, arith, ◌↔◌, IsTrue}
use Rattle.std.specs.Option.{is_some, ForSome}
use Rattle.std.proofs.lemmas.Bool.{eqb-true, eq-eqb}
use Rattle.clause_arena.specs.Clause.{Clause, Clauses, clause_at, is_same}
use Rattle.clause_arena.specs.declared.ClauseId.{ClauseId}
use Rattle.res_log.specs.Step.{Step}
use Rattle.res_log.specs.Log.{result_of, book_before, IsSound, EndsEmpty}
use Rattle.res_log.specs.Shelf.{lits_at}
use Rattle.res_log.proofs.Same.{is_same-sym}
use Rattle.res_log.proofs.Right.{some-parts, live-some}
use Rattle.res_log.proofs.Refutes.{Some-same}
use Rattle.res_log.proofs.Steps.{bare}

nil-from-same : (q c : Clause) → is_same q c ≡ true → q ≡ [] → c ≡ []
nil-from-same q [] h e = refl
nil-from-same [] (x ∷ xs) h e = cc
nil-from-same (y ∷ ys) (x ∷ xs) h e = cc

nil-from-length : {X : Type 0} (xs : List X) → eqb (length xs) 0 ≡ true → xs ≡ []
nil-from-length [] h = refl
nil-from-length (x ∷ xs) h = absurd (let e : length (x ∷ xs) ≡ 0 = eqb-true _ _ h in omega arith)

pub ends-live : (arena : Clauses) (log : List Step) (x : ClauseId) (b : Bool) → IsSound arena log → 0 < length log → ((d : Step) → x ≡ (get_or log (length log - 1) d).derived) → is_some (clause_at arena x.0) ≡ true → b ≡ eqb (length (lits_at arena x.0)) 0 → IsTrue b ↔ EndsEmpty arena log
ends-live arena [] x b f l e v h = absurd (omega arith)
ends-live arena (s ∷ ss) x b f l e v h =
    let n : length (s ∷ ss) - 1 ≡ length ss = omega arith in
    let m : length ss < length (s ∷ ss) = omega arith in
    let at : (d : Step) → x ≡ (get_or (s ∷ ss) (length ss) d).derived = λ d. e d ∙ ap (λ (k : ℕ). (get_or (s ∷ ss) k d).derived) n in
    let r = λ (d : Step). some-parts (result_of (book_before arena (s ∷ ss) (length ss)) (get_or (s ∷ ss) (length ss) d)) (λ r. ForSome (clause_at arena (get_or (s ∷ ss) (length ss) d).derived.0) (λ c. is_same r c ≡ true)) (f (length ss) d m).2 in
    let q = λ (d : Step). (r d).2 (lits_at arena x.0) (ap (λ (y : ClauseId). clause_at arena y.0) (sym (at d)) ∙ live-some arena x.0 v) in (
      λ t d.
          let k : lits_at arena x.0 ≡ [] = nil-from-length _ (sym h ∙ t) in
          (r d).1 ∙ ap (λ (c : Clause). Some c) (nil-from-same (lits_at arena x.0) (r d).0 (is_same-sym (r d).0 (lits_at arena x.0) (q d)) k),
      λ g.
          let d = bare x in
          let o : (r d).0 ≡ [] = Some-same _ _ (sym (r d).1 ∙ g d) in
          h ∙ eq-eqb _ _ (ap length (nil-from-same (r d).0 (lits_at arena x.0) (q d) o)),
    )
